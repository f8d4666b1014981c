-- Why there is no link table.
use Rattle.std.proofs.Common.{◌≡◌, ℕ, Bool, true, false, List, [], ◌∷◌, ◌++◌, map, refl, sym, ap, subst, ◌∙◌, inl, inr, Option}
use Rattle.std.specs.Prelude.{Any, ◌||◌, ◌⊎◌}
use Rattle.std.specs.List.{AllByRecursion as Each, list_any}
use Rattle.std.proofs.lemmas.Bool.{cases_Bool}
use Rattle.std.proofs.lemmas.List.Folds.{Any-from_list_any, list_any-from_Any}
use Rattle.wit_component.specs.declared.fault.Fault.{Fault}
use Rattle.wit_component.specs.declared.fault.Fault.TheVariants as faults
use Rattle.wit_component.specs.declared.table.Table.{Table}
use Rattle.wit_component.specs.declared.table.Candidates.{Candidates}
use Rattle.wit_component.specs.Candidates.{names_in, Notes, has_hook, has_post_return, IsNameCause}
use Rattle.wit_component.specs.Cause.{RepeatsPair, IsImportCause, IsLinkCause, IsStillToCome}
use Rattle.wit_component.specs.CoreNames.{root, standard, is_outer_memory, is_hook_name, is_initialize_name, is_post_return_name}
use Rattle.wit_component.specs.Linking.{CoreImport, CoreExport, Linking}
use Rattle.wit_component.specs.Places.{ImportLink, ExportLink, Placed, ImportPlace, ExportPlace}
use Rattle.wit_component.specs.Table.{import_entry, IsLinked}
use Rattle.plain_worlds.specs.World.{FunctionItem}
use Rattle.wit_component.proofs.Entries.{all_entered}
use Rattle.wit_component.proofs.PlacesNames.{no_place, still_offered}
use Rattle.wit_component.proofs.PlacesRepeats.{repeats_at, pair_there}

-- a core import's cause is one of the table
pub import_cause : (l : Linking) (e : Fault) → Any (IsImportCause l e) l.main.imports → IsLinkCause l e
import_cause l faults.NotYet h = absurd h.4
import_cause l faults.DuplicateImport h = absurd h.4
import_cause l faults.UnknownImport h = inl h
import_cause l faults.Ambiguous h = inl h
import_cause l faults.LegacyName h = inl h
import_cause l faults.WrongCoreType h = inl h
import_cause l faults.MissingCoreExport h = inl h
import_cause l faults.TooLarge h = absurd h.4
import_cause l faults.OutOfMemory h = tt

-- a core import doesn't ask for what is still to come
not_asked : (l : Linking) (i : CoreImport) → ((P : CoreImport → Type 0) → P i → Any P l.main.imports) → (IsStillToCome l → ⊥) → is_outer_memory i.place i.name ≡ false
not_asked l i at plain = elim (cases_Bool (is_outer_memory i.place i.name)) [
  | inl asks ↦ absurd (plain (inl (at (λ j. is_outer_memory j.place j.name ≡ true) asks)))
  | inr plain_one ↦ plain_one
]

-- and so is that of its name, behind the imports so far
pub name_cause : (l : Linking) (e : Fault) (is more : List CoreImport) (i : CoreImport) (old : Table) → old.legacy ≡ names_in is root → old.standard ≡ names_in is standard
    → l.main.imports ≡ is ++ i ∷ more → ((P : CoreImport → Type 0) → P i → Any P l.main.imports) → (IsStillToCome l → ⊥) → IsNameCause old i.place i.name e → IsLinkCause l e
name_cause l faults.NotYet is more i old legacy of_standard parts at plain h = absurd h
name_cause l faults.DuplicateImport is more i old legacy of_standard parts at plain h =
    subst RepeatsPair (sym parts) (repeats_at i is more (pair_there is i old old legacy of_standard h.0 false h.1))
name_cause l faults.UnknownImport is more i old legacy of_standard parts at plain h = inl (at (IsImportCause l faults.UnknownImport) (ap (map (import_entry i)) (no_place l i h), not_asked l i at plain))
name_cause l faults.Ambiguous is more i old legacy of_standard parts at plain h = absurd h
name_cause l faults.LegacyName is more i old legacy of_standard parts at plain h = absurd h
name_cause l faults.WrongCoreType is more i old legacy of_standard parts at plain h = absurd h
name_cause l faults.MissingCoreExport is more i old legacy of_standard parts at plain h = absurd h
name_cause l faults.TooLarge is more i old legacy of_standard parts at plain h = absurd h
name_cause l faults.OutOfMemory is more i old legacy of_standard parts at plain h = tt

-- ---- what is still to come

-- whether it is offered, by a look-up of the core exports' texts
abbrev pub still_offers : Linking → (List ℕ → Option Candidates) → Bool
still_offers l look = has_hook l.rejects_legacy look || list_any (λ (f : FunctionItem). has_post_return l.rejects_legacy look f.name) l.world.exports

-- whether it is asked for or offered
abbrev still_asked : Linking → (List ℕ → Option Candidates) → Bool
still_asked l look =
    list_any (λ (i : CoreImport). is_outer_memory i.place i.name) l.main.imports
    || still_offers l look

module _ (l : Linking) (look : List ℕ → Option Candidates) (notes : Notes (λ (e : CoreExport). e.name) l.main.exports look) where
  offered : CoreExport → Bool
  offered e = is_hook_name e.name || is_initialize_name l.rejects_legacy e.name || list_any (λ (f : FunctionItem). is_post_return_name l.rejects_legacy f.name e.name) l.world.exports

  tests : (list_any (λ (i : CoreImport). is_outer_memory i.place i.name) l.main.imports || list_any offered l.main.exports) ≡ still_asked l look
  unfolding offered
  tests = ap (λ b. list_any (λ (i : CoreImport). is_outer_memory i.place i.name) l.main.imports || b) (still_offered (λ (e : CoreExport). e.name) l.main.exports look notes l.rejects_legacy l.world.exports)

  one_of : (a b : Bool) → (a || b) ≡ true → (a ≡ true) ⊎ (b ≡ true)
  one_of true b e = inl refl
  one_of false b e = inr e

  pub still_is : still_asked l look ≡ true → IsStillToCome l
  unfolding offered
  still_is e = elim (one_of (list_any (λ (i : CoreImport). is_outer_memory i.place i.name) l.main.imports) (list_any offered l.main.exports) (tests ∙ e)) [
    | inl t ↦ inl (Any-from_list_any (λ (i : CoreImport). is_outer_memory i.place i.name) l.main.imports t)
    | inr t ↦ inr (Any-from_list_any offered l.main.exports t)
  ]

  none_of : (a b : Bool) → (a || b) ≡ false → (a ≡ false) × (b ≡ false)
  none_of true b e = absurd cc
  none_of false b e = (refl, e)

  pub still_is_not : still_asked l look ≡ false → IsStillToCome l → ⊥
  unfolding offered
  still_is_not e (inl h) =
      let no = none_of (list_any (λ (i : CoreImport). is_outer_memory i.place i.name) l.main.imports) (list_any offered l.main.exports) (tests ∙ e) in
      let yes = list_any-from_Any (λ (i : CoreImport). is_outer_memory i.place i.name) l.main.imports h in
      let bad : true ≡ false = sym yes ∙ no.0 in absurd cc
  still_is_not e (inr h) =
      let no = none_of (list_any (λ (i : CoreImport). is_outer_memory i.place i.name) l.main.imports) (list_any offered l.main.exports) (tests ∙ e) in
      let yes = list_any-from_Any offered l.main.exports h in
      let bad : true ≡ false = sym yes ∙ no.1 in absurd cc

-- ---- links from places

placed_each : {X : Type 0} (R : X → ℕ → Type 0) (Q : X → Type 0) → ((x : X) (p : ℕ) → R x p → Q x) → (xs : List X) (ps : List ℕ) → Placed R xs ps → Each Q xs
placed_each R Q h [] ps placed = tt
placed_each R Q h (x ∷ xs) [] placed = absurd placed
placed_each R Q h (x ∷ xs) (p ∷ ps) placed = (h x p placed.0, placed_each R Q h xs ps placed.1)

pub linked_from : (l : Linking) (imports exports : List ℕ) → Placed (ImportPlace l) l.main.imports imports → Placed (ExportPlace l) l.world.exports exports → IsLinked l
linked_from l imports exports i e = all_entered l (record {
  imports = placed_each (ImportPlace l) (λ i. (f : FunctionItem) × ImportLink l i f) (λ i p h. (h.0, h.2)) l.main.imports imports i;
  exports = placed_each (ExportPlace l) (λ f. (e : CoreExport) × ExportLink l f e) (λ f p h. (h.0, h.2)) l.world.exports exports e;
})
