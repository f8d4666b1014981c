use Rattle.std.proofs.Common.{◌≡◌, ℕ, ◌∷◌, ◌++◌, [], length, take, None, Some, sym, ap, ◌∙◌}
use Rattle.std.proofs.lemmas.Iterator.Adapters.{YieldsList-from_vec}
use Rattle.std.proofs.lemmas.Iterator.Consumers.{YieldsList-turn}
use Rattle.std.proofs.lemmas.List.{length_push}
use Rattle.std.specs.Prelude.{slice_get}
use Rattle.std.specs.Map.{lookup}
use Rattle.indexmap.proofs.CallerLemmas.{insert_entry-new}
use Rattle.wit_lookups.proofs.Passed.wit_rules-Places.{read_at, taken}
use Rattle.wit_resolved_scopes.proofs.Keying.{new_key}
use Rattle.wit_resolved_scopes.proofs.maps.keyed.Goals as goal

pub loop-key-preserved-in_ok-insert : goal.loop-key-preserved-in_ok-insert
loop-key-preserved-in_ok-insert g c =
    let yields = YieldsList-from_vec {s = c.into_iter-key-iterator.result} c.args.pairs.items c.into_iter-key-iterator.ensures.into_iter_gives.0 (c.into_iter-key-iterator.ensures.into_iter_gives.1 ∙ c.args.pairs.ok.0) in
    let turn = YieldsList-turn yields c.loop-key.yielded c.loop-key.key-iterator c.loop-key.yielded_by c.next.result c.next.new.self (c.in-Some.key, c.in-Some.value) c.in-Some.is c.next.ensures.steps in
    let there : slice_get c.args.pairs.items (length c.loop-key.yielded) ≡ Some (c.in-Some.key, c.in-Some.value) = read_at c.args.pairs.items (length c.loop-key.yielded) (c.in-Some.key, c.in-Some.value) turn.0 turn.1 in
    let absent : lookup (g.K.PartialEq.eq c.in-Some.key) c.loop-key.found.entries ≡ None =
    ap (lookup (g.K.PartialEq.eq c.in-Some.key)) c.loop-key.invariant ∙ new_key g.K.PartialEq.eq c.args.pairs.items c.requires (length c.loop-key.yielded) (c.in-Some.key, c.in-Some.value) there in
    c.in_ok-insert.ensures.entries
    ∙ insert_entry-new g.K.PartialEq.eq c.loop-key.found c.in-Some.key c.in-Some.value absent
    ∙ ap (λ es. es ++ (c.in-Some.key, c.in-Some.value) ∷ []) c.loop-key.invariant
    ∙ sym (taken c.args.pairs.items (length c.loop-key.yielded) (c.in-Some.key, c.in-Some.value) there)
    ∙ ap (λ (m : ℕ). take m c.args.pairs.items) (sym (length_push c.loop-key.yielded (c.in-Some.key, c.in-Some.value)))

pub loop-key-preserved : goal.loop-key-preserved
loop-key-preserved g c =
    let yields = YieldsList-from_vec {s = c.into_iter-key-iterator.result} c.args.pairs.items c.into_iter-key-iterator.ensures.into_iter_gives.0 (c.into_iter-key-iterator.ensures.into_iter_gives.1 ∙ c.args.pairs.ok.0) in
    let turn = YieldsList-turn yields c.loop-key.yielded c.loop-key.key-iterator c.loop-key.yielded_by c.next.result c.next.new.self (c.in-Some.key, c.in-Some.value) c.in-Some.is c.next.ensures.steps in
    let there : slice_get c.args.pairs.items (length c.loop-key.yielded) ≡ Some (c.in-Some.key, c.in-Some.value) = read_at c.args.pairs.items (length c.loop-key.yielded) (c.in-Some.key, c.in-Some.value) turn.0 turn.1 in
    let absent : lookup (g.K.PartialEq.eq c.in-Some.key) c.loop-key.found.entries ≡ None =
    ap (lookup (g.K.PartialEq.eq c.in-Some.key)) c.loop-key.invariant ∙ new_key g.K.PartialEq.eq c.args.pairs.items c.requires (length c.loop-key.yielded) (c.in-Some.key, c.in-Some.value) there in
    c.in_ok-insert.ensures.entries
    ∙ insert_entry-new g.K.PartialEq.eq c.loop-key.found c.in-Some.key c.in-Some.value absent
    ∙ ap (λ es. es ++ (c.in-Some.key, c.in-Some.value) ∷ []) c.loop-key.invariant
    ∙ sym (taken c.args.pairs.items (length c.loop-key.yielded) (c.in-Some.key, c.in-Some.value) there)
    ∙ ap (λ (m : ℕ). take m c.args.pairs.items) (sym (length_push c.loop-key.yielded (c.in-Some.key, c.in-Some.value)))
