use Rattle.std.proofs.Common.{◌≡◌, ◌<◌, ℕ, List, Option, Some, None, length, map, sym, subst, ap, ◌∙◌}
use Rattle.std.specs.Prelude.{IfNone, slice_get}
use Rattle.std.proofs.lemmas.List.{length-map}
use Rattle.name_places.specs.FirstPlaces.{place_of}
use Rattle.name_places.proofs.Places.{place_within}
use Rattle.wit_arena.specs.Meaning.{Has}
use Rattle.wit_arena.specs.Tree.{Name}
use Rattle.wit_arena.specs.Table.{Entries, entries_of, names_of}
use Rattle.wit_arena.proofs.Tables.{placed_has, unplaced}
use Rattle.wit_arena.proofs.table.Table.get.Goals as goal

if_none : (r : Option ℕ) (P : Type 0) → P → IfNone r P
if_none None P h = h
if_none (Some i) P h = tt

within : (es : Entries) (ns : List Name) (name : Name) (p : ℕ) → ns ≡ names_of es → place_of name ns ≡ Some p → p < length es
within es ns name p are at = subst (λ (n : ℕ). p < n) (ap length are ∙ length-map es (λ (e : Name × ℕ). e.0)) (place_within name ns p at)

pub entry-id-requires : goal.entry-id-requires
entry-id-requires c =
    subst (λ (es : Entries). c.in_ok-place.place < length es) c.self.view_is
    (within (entries_of c.self.inside.entries.items) c.self.inside.names c.args.name.now c.in_ok-place.place c.self.invariant (sym c.first.ensures ∙ c.in_ok-place.was))

pub returns-clause-some : goal.returns-clause-some
returns-clause-some c =
    let es : Entries = entries_of c.self.inside.entries.items in
    let found : place_of c.args.name.now c.self.inside.names ≡ Some c.in_ok-place.place = sym c.first.ensures ∙ c.in_ok-place.was in
    let there : slice_get es c.in_ok-place.place ≡ Some (c.entry-id.result.0.now, c.entry-id.result.1) = ap (λ (t : Entries). slice_get t c.in_ok-place.place) c.self.view_is ∙ c.entry-id.ensures in
    subst (λ (t : Entries). Has t (c.args.name.now, c.entry-id.result.1)) c.self.view_is
    (placed_has es c.args.name.now c.in_ok-place.place (c.entry-id.result.0.now, c.entry-id.result.1) (ap (place_of c.args.name.now) (sym c.self.invariant) ∙ found) there)

pub returns-in_err-place-clause-none : goal.returns-in_err-place-clause-none
returns-in_err-place-clause-none c =
    if_none c.from_residual.result ((i : ℕ) → Has c.args.self.now (c.args.name.now, i) → ⊥)
    (subst (λ (t : Entries). (i : ℕ) → Has t (c.args.name.now, i) → ⊥) c.self.view_is
    (unplaced (entries_of c.self.inside.entries.items) c.args.name.now (ap (place_of c.args.name.now) (sym c.self.invariant) ∙ sym c.first.ensures ∙ c.in_err-place.was)))
