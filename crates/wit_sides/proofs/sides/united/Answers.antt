use Rattle.std.proofs.Common.{◌≡◌, false, sym, ap, ◌∙◌}
use Rattle.std.specs.Prelude.{is_some}
use Rattle.std.specs.Map.{lookup}
use Rattle.indexmap.proofs.CallerLemmas.{insert_entry-new}
use Rattle.wit_sides.specs.Sides as spec
use Rattle.wit_sides.proofs.Entries.{is_none, put_behind}
use Rattle.wit_sides.proofs.sides.united.Goals as goal

pub loop-key-preserved-in_ok-insert-2 : goal.loop-key-preserved-in_ok-insert-2
loop-key-preserved-in_ok-insert-2 g c =
    let eq = g.K.PartialEq.eq in
    let es = c.loop-key.found.entries in
    let rest = c.next.new.self.rest.items in
    let out : is_some (lookup (eq c.in-Some.key) es) ≡ false = let absent : c.contains_key.result ≡ false = c.if-not-contains_key.true in let is = c.contains_key.ensures in cc in
    let more : c.insert.new.self.entries ≡ spec.with_entry eq es (c.in-Some.key, c.in-Some.value) = c.in_ok-insert.ensures.entries ∙ insert_entry-new eq c.loop-key.found c.in-Some.key c.in-Some.value (is_none (lookup (eq c.in-Some.key) es) out) ∙ put_behind eq es (c.in-Some.key, c.in-Some.value) out in
    ap (λ s. spec.with_entries eq s rest) more
    ∙ ap (spec.with_entries eq es) (sym c.in-Some.ensures.steps.0)
    ∙ c.loop-key.invariant
