-- Where every entry is there, no cause of a refusal holds.
use Rattle.std.proofs.Common.{◌≡◌, ℕ, zero, suc, Bool, true, false, List, [], ◌∷◌, length, filter, Any, refl, sym, ap, subst, ◌∙◌, arith, inl, inr}
use Rattle.std.specs.Prelude.{bytes_eq}
use Rattle.std.specs.List.{AllByRecursion as Each}
use Rattle.std.proofs.lemmas.Bool.{cases_Bool, and_parts}
use Rattle.std.proofs.lemmas.Slice.Eq.{bytes_eq-Decides}
use Rattle.plain_worlds.specs.World.{FunctionItem}
use Rattle.wit_component.specs.declared.fault.Fault.{Fault}
use Rattle.wit_component.specs.declared.fault.Fault.TheVariants as faults
use Rattle.wit_component.specs.CoreNames.{root, standard, is_import_name}
use Rattle.wit_component.specs.Linking.{CoreImport, Linking}
use Rattle.wit_component.specs.Table.{Entry, entries_of_import, entries_of_export, IsTyped, IsEntry, is_of_memory, IsExportEntry, IsLinked}
use Rattle.wit_component.specs.Cause.{IsImportCause, IsExportCause, HasCause, IsLinkCause, IsLinkable, IsEncodeCause, IsTooLarge}
use Rattle.wit_component.proofs.Entries.{import_linked}

pub any_each : {X : Type 0} (P Q : X → Type 0) (xs : List X) → Each P xs → Any Q xs → (x : X) × P x × Q x
any_each P Q [] h (k, x, l, is, q) = absurd (omega arith)
any_each P Q (y ∷ ys) h (zero, x, l, is, q) = (y, h.0, subst Q (sym is) q)
any_each P Q (y ∷ ys) h (suc k, x, l, is, q) = any_each P Q ys h.1 (k, x, omega arith, is, q)

passes : {X : Type 0} (p : X → Bool) (xs : List X) (x : X) (more : List X) → filter p xs ≡ x ∷ more → p x ≡ true
passes p [] x more e = absurd cc
passes p (y ∷ ys) x more e = elim (cases_Bool (p y)) [
  | inl yes_it ↦ let kept = rw yes_it at e in let same : y ≡ x = cc in subst (λ z. p z ≡ true) same yes_it
  | inr other ↦ passes p ys x more (rw other at e)
]

two_places : (place : List ℕ) → bytes_eq place root ≡ true → bytes_eq place standard ≡ true → ⊥
two_places place r s =
    let same : root ≡ standard = sym ((bytes_eq-Decides place root).0 r) ∙ (bytes_eq-Decides place standard).0 s in
    absurd cc

-- where legacy names are rejected, what stands for an import stands under the standard text
rejected : (place name function : List ℕ) → is_import_name true place name function ≡ true → bytes_eq place standard ≡ true
rejected place name function e = elim (cases_Bool (bytes_eq place standard)) [
  | inl is ↦ is
  | inr other ↦ absurd (let bad = rw other at e in cc)
]

import_entry_alone : (l : Linking) (i : CoreImport) (e : Entry) → IsEntry (entries_of_import l i) e → (fault : Fault) → IsImportCause l fault i → ⊥
import_entry_alone l i e h faults.UnknownImport (none, plain) = let bad = sym h.only ∙ none in absurd cc
import_entry_alone l i e h faults.Ambiguous several = let one : length (entries_of_import l i) ≡ 1 = ap length h.only in absurd (omega arith)
import_entry_alone l i e h faults.LegacyName (rejects, any) =
    let link = import_linked l i e h in
    let stands : is_import_name l.rejects_legacy i.place i.name link.0.name ≡ true = passes (λ g. is_import_name l.rejects_legacy i.place i.name g.name) l.world.imports link.0 [] link.1.only in
    let under = rejected i.place i.name link.0.name (subst (λ (b : Bool). is_import_name b i.place i.name link.0.name ≡ true) rejects stands) in
    let legacy = (and_parts (bytes_eq i.place root) (bytes_eq i.name any.1.name) any.4).0 in
    two_places i.place legacy under
import_entry_alone l i e h faults.WrongCoreType (g, only, differs) =
    let same : e ∷ [] ≡ g ∷ [] = sym h.only ∙ only in
    let is : e ≡ g = cc in
    differs (subst IsTyped is h.typed)
import_entry_alone l i e h faults.NotYet cause = absurd cause
import_entry_alone l i e h faults.DuplicateImport cause = absurd cause
import_entry_alone l i e h faults.MissingCoreExport cause = absurd cause
import_entry_alone l i e h faults.TooLarge cause = absurd cause
import_entry_alone l i e h faults.OutOfMemory cause = absurd cause

export_entry_alone : (l : Linking) (f : FunctionItem) (e : Entry) → IsExportEntry l f e → (fault : Fault) → IsExportCause l fault f → ⊥
export_entry_alone l f e h faults.MissingCoreExport none = let bad = sym h.entry.only ∙ none in absurd cc
export_entry_alone l f e h faults.Ambiguous (inl several) = let one : length (entries_of_export l f) ≡ 1 = ap length h.entry.only in absurd (omega arith)
export_entry_alone l f e h faults.Ambiguous (inr memory) =
    let shared = any_each (λ (x : Entry). is_of_memory l.rejects_legacy x.line.item ≡ false) (λ (x : Entry). is_of_memory l.rejects_legacy x.line.item ≡ true) (e ∷ []) (h.one_meaning, tt) (subst (λ (xs : List Entry). Any (λ (x : Entry). is_of_memory l.rejects_legacy x.line.item ≡ true) xs) h.entry.only memory) in
    let bad : false ≡ true = sym shared.1 ∙ shared.2 in absurd cc
export_entry_alone l f e h faults.WrongCoreType (g, only, differs) =
    let same : e ∷ [] ≡ g ∷ [] = sym h.entry.only ∙ only in
    let is : e ≡ g = cc in
    differs (subst IsTyped is h.entry.typed)
export_entry_alone l f e h faults.NotYet cause = absurd cause
export_entry_alone l f e h faults.DuplicateImport cause = absurd cause
export_entry_alone l f e h faults.UnknownImport cause = absurd cause
export_entry_alone l f e h faults.LegacyName cause = absurd cause
export_entry_alone l f e h faults.TooLarge cause = absurd cause
export_entry_alone l f e h faults.OutOfMemory cause = absurd cause

some_entry : (l : Linking) → IsLinked l → (fault : Fault) → HasCause l fault → ⊥
some_entry l h fault (inl any) = let at = any_each (λ i. (e : Entry) × IsEntry (entries_of_import l i) e) (IsImportCause l fault) l.main.imports h.imports any in import_entry_alone l at.0 at.1.0 at.1.1 fault at.2
some_entry l h fault (inr any) = let at = any_each (λ f. (e : Entry) × IsExportEntry l f e) (IsExportCause l fault) l.world.exports h.exports any in export_entry_alone l at.0 at.1.0 at.1.1 fault at.2

pub no_link_cause : (l : Linking) → IsLinkable l → (fault : Fault) → IsLinkCause l fault → fault ≡ faults.OutOfMemory
no_link_cause l h faults.TooLarge cause = absurd cause
no_link_cause l h faults.OutOfMemory cause = refl
no_link_cause l h faults.NotYet cause = absurd (h.plain cause)
no_link_cause l h faults.DuplicateImport cause = absurd (h.distinct cause)
no_link_cause l h faults.UnknownImport cause = absurd (some_entry l h.linked faults.UnknownImport cause)
no_link_cause l h faults.Ambiguous cause = absurd (some_entry l h.linked faults.Ambiguous cause)
no_link_cause l h faults.LegacyName cause = absurd (some_entry l h.linked faults.LegacyName cause)
no_link_cause l h faults.WrongCoreType cause = absurd (some_entry l h.linked faults.WrongCoreType cause)
no_link_cause l h faults.MissingCoreExport cause = absurd (some_entry l h.linked faults.MissingCoreExport cause)

pub no_encode_cause : (l : Linking) → IsLinkable l → (IsTooLarge l → ⊥) → (fault : Fault) → IsEncodeCause l fault → fault ≡ faults.OutOfMemory
no_encode_cause l h fits fault (inl cause) = no_link_cause l h fault cause
no_encode_cause l h fits fault (inr (is, linkable, large)) = absurd (fits large)
