use Rattle.std.proofs.Common.{◌≡◌, ◌++◌, ℕ, List, sym, ap, ◌∙◌, subst, drop}
use Rattle.std.proofs.lemmas.Result.{err_from_is_err_and}
use Rattle.indexmap.specs.IndexMap.{values}
use Rattle.wit_moves.specs.Passed.wit_types-declared-package-AstItem.{AstItem}
use Rattle.wit_finding.specs.Asks.{ItemEntry, Ask, asks_of, asks_in, items_of, found_by}
use Rattle.wit_finding.proofs.Having.{has_slice_get, left_next}
use Rattle.wit_finding.proofs.Asking.{Leads, leads_all, leads_past, leads_done, cause_past, found_on, found_all, asks_from, asks_left, items_at, asks_end, id_at}
use Rattle.wit_finding.proofs.asks.found_items.Goals as goal

pub get-requires : goal.get-requires
get-requires g c =
    let s = c.in-Some.ensures.steps in
    let k : ℕ = c.loop-place.place-iterator.count in
    let at = id_at c.args.ids.now c.args.deps.now.entries k c.in-Some.place c.index-ids-place.result c.in-Some.items.now c.next.new.self.iter c.requires.so_many (sym c.loop-place.invariant.left ∙ s.0) s.1 c.index-ids-place.is in
    c.requires.packages c.index-ids-place.result (has_slice_get c.args.ids.now k c.index-ids-place.result at)

pub add_asks-requires : goal.add_asks-requires
add_asks-requires g c =
    let s = c.in-Some.ensures.steps in
    let k : ℕ = c.loop-place.place-iterator.count in
    let deps = c.args.deps.now.entries in
    let m = c.in-Some.items.now in
    c.requires.there m.entries (has_slice_get (items_of deps) k m.entries (items_at deps k m c.next.new.self.iter (sym c.loop-place.invariant.left ∙ s.0)))

pub loop-place-init : goal.loop-place-init
loop-place-init g c =
    let features = c.args.asker.now.features.now in
    let interfaces = c.args.asker.now.interfaces.now in
    let worlds = c.args.asker.now.worlds.now in
    let packages = c.args.packages.now in
    let ids : List ℕ = c.args.ids.now in
    let deps = c.args.deps.now.entries in
    let ds : List (List ItemEntry) = items_of deps in
    let all : List Ask = asks_in packages ids ds in
    let same = c.into_iter-place-iterator.ensures.into_iter_gives in
    let it = c.into_iter-place-iterator.result in
    let zero : it.count ≡ 0 = ap (λ i. i.count) same ∙ c.enumerate-place-items.ensures.count in
    let from : asks_from packages ids ds it.count ≡ all = ap (asks_from packages ids ds) zero in
    record {
      left = ap (λ i. i.iter) same ∙ c.enumerate-place-items.ensures.source ∙ c.values.ensures.rest ∙ sym (ap (λ (n : ℕ). drop n (values c.args.deps.now)) zero);
      found = ap (λ (ps : List (AstItem × AstItem)). ps ++ found_by features (asks_from packages ids ds it.count)) c.new-found.ensures.items ∙ ap (found_by features) from;
      leads = subst (Leads features interfaces worlds all) (sym from) (leads_all features interfaces worlds all);
    }

pub loop-place-preserved : goal.loop-place-preserved
loop-place-preserved g c =
    let features = c.args.asker.now.features.now in
    let interfaces = c.args.asker.now.interfaces.now in
    let worlds = c.args.asker.now.worlds.now in
    let packages = c.args.packages.now in
    let ids : List ℕ = c.args.ids.now in
    let deps = c.args.deps.now.entries in
    let ds : List (List ItemEntry) = items_of deps in
    let all : List Ask = asks_in packages ids ds in
    let s = c.in-Some.ensures.steps in
    let k : ℕ = c.loop-place.place-iterator.count in
    let n : ℕ = c.next.new.self.count in
    let p = c.get.result.now in
    let m = c.in-Some.items.now in
    let rest = c.next.new.self.iter in
    let inv = c.loop-place.invariant in
    let left = sym inv.left ∙ s.0 in
    let on : asks_from packages ids ds k ≡ asks_of p m.entries ++ asks_from packages ids ds n = asks_left packages ids deps k n c.in-Some.place c.index-ids-place.result p m rest c.requires.so_many left s.1 s.2 c.index-ids-place.is c.get.ensures in
    record {
      left = sym (ap (λ (j : ℕ). drop j (values c.args.deps.now)) s.2 ∙ left_next (values c.args.deps.now) k m rest left);
      found = found_on features c.loop-place.found.items c.add_asks.new.found.items (found_by features all) (asks_of p m.entries) (asks_from packages ids ds n) (asks_from packages ids ds k) c.in_ok-add_asks.ensures.found on inv.found;
      leads = leads_past features interfaces worlds all (asks_of p m.entries) (asks_from packages ids ds n) (subst (Leads features interfaces worlds all) on inv.leads) c.in_ok-add_asks.ensures.kept;
    }

pub returns-in_err-add_asks-clause-cause : goal.returns-in_err-add_asks-clause-cause
returns-in_err-add_asks-clause-cause g c =
    let features = c.args.asker.now.features.now in
    let interfaces = c.args.asker.now.interfaces.now in
    let worlds = c.args.asker.now.worlds.now in
    let packages = c.args.packages.now in
    let ids : List ℕ = c.args.ids.now in
    let deps = c.args.deps.now.entries in
    let ds : List (List ItemEntry) = items_of deps in
    let all : List Ask = asks_in packages ids ds in
    let s = c.in-Some.ensures.steps in
    let k : ℕ = c.loop-place.place-iterator.count in
    let n : ℕ = c.next.new.self.count in
    let p = c.get.result.now in
    let m = c.in-Some.items.now in
    let rest = c.next.new.self.iter in
    let inv = c.loop-place.invariant in
    let left = sym inv.left ∙ s.0 in
    let on : asks_from packages ids ds k ≡ asks_of p m.entries ++ asks_from packages ids ds n = asks_left packages ids deps k n c.in-Some.place c.index-ids-place.result p m rest c.requires.so_many left s.1 s.2 c.index-ids-place.is c.get.ensures in
    let r = err_from_is_err_and c.from_residual.result c.from_residual.ensures.1 in
    rw (r.1, r.2) (cause_past features interfaces worlds all (asks_of p m.entries) (asks_from packages ids ds n) (subst (Leads features interfaces worlds all) on inv.leads) c.in_err-add_asks.field-0.0 c.in_err-add_asks.ensures.cause)

pub returns-clause-found : goal.returns-clause-found
returns-clause-found g c =
    let features = c.args.asker.now.features.now in
    let packages = c.args.packages.now in
    let ids : List ℕ = c.args.ids.now in
    let deps = c.args.deps.now.entries in
    let ds : List (List ItemEntry) = items_of deps in
    let k : ℕ = c.loop-place.place-iterator.count in
    let found = c.loop-place.found.items in
    found_all features found found (found_by features (asks_in packages ids ds)) (asks_from packages ids ds k) (asks_end packages ids deps k (sym c.loop-place.invariant.left ∙ c.in-None.ensures.steps.0.0)) c.loop-place.invariant.found

pub returns-clause-kept : goal.returns-clause-kept
returns-clause-kept g c =
    let features = c.args.asker.now.features.now in
    let interfaces = c.args.asker.now.interfaces.now in
    let worlds = c.args.asker.now.worlds.now in
    let deps = c.args.deps.now.entries in
    let all : List Ask = asks_in c.args.packages.now c.args.ids.now (items_of deps) in
    let end = asks_end c.args.packages.now c.args.ids.now deps c.loop-place.place-iterator.count (sym c.loop-place.invariant.left ∙ c.in-None.ensures.steps.0.0) in
    leads_done features interfaces worlds all (subst (Leads features interfaces worlds all) end c.loop-place.invariant.leads)
