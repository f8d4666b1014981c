-- Why there is no link table, of what is found one by one.
use Rattle.std.proofs.Common.{◌≡◌, true, ◌⊎◌, List, [], ◌∷◌, ◌++◌, Option, inl, inr, refl, sym, subst}
use Rattle.wasm_types.specs.Entries.{ImportValue}
use Rattle.wit_order.specs.Order.{Has}
use Rattle.linked_types.proofs.Walks.{has_at}
use Rattle.wit_types.specs.declared.function.Function.{Function}
use Rattle.wit_types.specs.declared.mangling.AbiVariant.{AbiVariant}
use Rattle.wit_types.specs.declared.mangling.AbiVariant.TheVariants.{GuestImport, GuestExport}
use Rattle.wit_types.specs.declared.world_key.WorldKey.{WorldKey}
use Rattle.canonical_options.specs.Passed.flat_types-Signature.{RequiredValue}
use Rattle.linked_types.specs.Reached.{IsCause as IsReachedCause}
use Rattle.linked_types.specs.declared.fault.TypeFault.{TypeFault}
use Rattle.linked_types.specs.declared.fault.TypeFault.TheVariants as type_faults
use Rattle.core_links.specs.Imports.{IsImportsCause}
use Rattle.core_links.specs.declared.fault.LinkFault.{LinkFault}
use Rattle.core_links.specs.declared.fault.LinkFault.TheVariants as link_faults
use Rattle.link_table.specs.Apart.{IsApartCause}
use Rattle.link_table.specs.Cause.{IsAsked, imported, exported, of_import, of_export, IsTableCause, of_link, of_type}
use Rattle.link_table.specs.Coming.{IsToCome, outer_memory, resource_intrinsic, with_options, exported_interface, hook, initialize, post_return}
use Rattle.link_table.specs.Exports.{IsTypedCause, IsExportCause, missing}
use Rattle.link_table.specs.Imports.{AsksFor, IsImportCause}
use Rattle.link_table.specs.Linking.{Linking, types_of, StandsForFunction, AreImported, AreLinked, IsLinked, exported_functions}
use Rattle.link_table.specs.Linking as linked
use Rattle.link_table.specs.Options.{IsMemoryCause, IsReallocCause, IsOptionsCause, LacksMemory, ambiguous, wrong_type}
use Rattle.link_table.specs.Walks.{IsFunctionsCause, IsWalkCause, IsExportsCause}
use Rattle.link_table.specs.declared.fault.TableFault.{TableFault}
use Rattle.link_table.specs.declared.fault.TableFault.TheVariants as faults
use Rattle.link_table.proofs.Pairwise.{beside_too}

pub parts : (xs ys : List Function) (f : Function) → Has (xs ++ ys) f → Has xs f ⊎ Has ys f
parts [] ys f h = inr h
parts (x ∷ xs) ys f (inl e) = inl (inl e)
parts (x ∷ xs) ys f (inr h) = elim (parts xs ys f h) as (λ _. Has (x ∷ xs) f ⊎ Has ys f) [ inl first ↦ inl (inr first) | inr second ↦ inr second ]

pub has_first : (xs ys : List Function) (f : Function) → Has xs f → Has (xs ++ ys) f
has_first [] ys f h = absurd h
has_first (x ∷ xs) ys f (inl e) = inl e
has_first (x ∷ xs) ys f (inr h) = inr (has_first xs ys f h)

pub has_second : (xs ys : List Function) (f : Function) → Has ys f → Has (xs ++ ys) f
has_second [] ys f h = h
has_second (x ∷ xs) ys f h = inr (has_second xs ys f h)

module _ (l : Linking) where
  to : (fault other : TableFault) → fault ≡ other → IsTableCause l other → IsTableCause l fault
  to fault other e h = subst (IsTableCause l) (sym e) h

  memory : (fault : TableFault) → fault ≡ faults.OutOfMemory → IsTableCause l fault
  memory fault e = to fault faults.OutOfMemory e tt

  coming : (fault : TableFault) → fault ≡ faults.NotYet → IsToCome l → IsTableCause l fault
  coming fault e h = to fault faults.NotYet e (inl h)

  -- ---- names

  pub links_cause : (g : LinkFault) → IsImportsCause l.names l.main.imports g → IsTableCause l (of_link g)
  links_cause link_faults.NotYet h = inl (outer_memory h.1 (has_at l.main.imports h.0 h.1 h.2) h.3)
  links_cause link_faults.DuplicateImport h = h
  links_cause link_faults.UnknownImport h = h
  links_cause link_faults.Ambiguous h = inl h
  links_cause link_faults.LegacyName h = h
  links_cause link_faults.WrongCoreType h = absurd h
  links_cause link_faults.MissingCoreExport h = absurd h
  links_cause link_faults.OutOfMemory h = tt

  pub functions_cause : (fault : TableFault) → IsFunctionsCause l fault → IsTableCause l fault
  functions_cause fault (inl (e, inl h)) = coming fault e (resource_intrinsic h.0 h.1 h.2 h.3 h.4 h.5)
  functions_cause fault (inl (e, inr h)) = coming fault e (exported_interface h.0 h.1 h.2)
  functions_cause fault (inr e) = memory fault e

  -- ---- types

  are_linked : (fs : List Function) → AreLinked l fs → (f : Function) → Has fs f → IsLinked l f
  are_linked fs all f h = elim (parts all.imported (exported_functions l.names.world) f (subst (λ (gs : List Function). Has gs f) all.are h)) as (λ _. IsLinked l f) [
    | inl first ↦
        let b = beside_too (λ (i : ImportValue) (g : Function). (key : Option WorldKey) × StandsForFunction l.names i key g) l.main.imports all.imported f all.imported_are first in
        let s = all.imported_are.each b.0 b.1 f b.2 b.3 in
        linked.imported b.1 s.0 (has_at l.main.imports b.0 b.1 b.2) s.1
    | inr second ↦ linked.exported second
  ]

  pub types_cause : (fs : List Function) (g : TypeFault) → AreLinked l fs → IsReachedCause (types_of l) fs g → IsTableCause l (of_type g)
  types_cause fs type_faults.NotYet all h = inr (fs, are_linked fs all, h)
  types_cause fs type_faults.AsyncReached all h = (fs, are_linked fs all, h)
  types_cause fs type_faults.EmptyTypeReached all h = (fs, are_linked fs all, h)
  types_cause fs type_faults.TooManyFlags all h = (fs, are_linked fs all, h)
  types_cause fs type_faults.OutOfMemory all h = tt

  -- ---- options

  memory_cause : (variant : AbiVariant) (r : RequiredValue) (fault : TableFault) → IsAsked l variant r → r.memory ≡ true → IsMemoryCause l fault → IsTableCause l fault
  memory_cause variant r fault asked needs (inl (inl (e, none))) = to fault faults.NoMemory e (variant, r, asked, (needs, none))
  memory_cause variant r fault asked needs (inl (inr (inl (e, unclear)))) = to fault ambiguous e (inr (inr (variant, r, asked, inl (needs, unclear))))
  memory_cause variant r fault asked needs (inl (inr (inr e))) = memory fault e
  memory_cause variant r fault asked needs (inr (e, other)) = to fault wrong_type e (inr (variant, r, asked, inl (needs, other)))

  realloc_cause : (variant : AbiVariant) (r : RequiredValue) (fault : TableFault) → IsAsked l variant r → r.realloc ≡ true → (LacksMemory l r → ⊥) → IsReallocCause l variant fault → IsTableCause l fault
  realloc_cause variant r fault asked needs has (inl (inl (e, none))) = to fault faults.NoRealloc e (variant, r, asked, (needs, none, has))
  realloc_cause variant r fault asked needs has (inl (inr (inl (e, unclear)))) = to fault ambiguous e (inr (inr (variant, r, asked, inr (needs, unclear))))
  realloc_cause variant r fault asked needs has (inl (inr (inr e))) = memory fault e
  realloc_cause variant r fault asked needs has (inr (e, other)) = to fault wrong_type e (inr (variant, r, asked, inr (needs, other)))

  options_cause : (variant : AbiVariant) (r : RequiredValue) (fault : TableFault) → IsAsked l variant r → IsOptionsCause l variant r fault → IsTableCause l fault
  options_cause variant r fault asked (inl (needs, h)) = memory_cause variant r fault asked needs h
  options_cause variant r fault asked (inr (needs, has, h)) = realloc_cause variant r fault asked needs has h

  -- ---- imports

  module _ (i : ImportValue) (key : Option WorldKey) (f : Function) (h : Has l.main.imports i) (stands : StandsForFunction l.names i key f) where
    asks_cause : (fault : TableFault) → AsksFor l f fault → IsTableCause l fault
    asks_cause fault asks = elim asks.cause as (λ _. IsTableCause l fault) [
      | inl cause ↦ options_cause GuestImport asks.required fault (imported i key f refl h stands asks.requires) cause
      | inr later ↦ coming fault later.0 (with_options i key f asks.required later.1.0 h stands asks.requires asks.asking later.1.1)
    ]

    one_import_cause : (fault : TableFault) → IsImportCause l i f fault → IsTableCause l fault
    one_import_cause fault (inl (e, mistyped)) = to fault wrong_type e (inl (of_import i key f h stands mistyped))
    one_import_cause fault (inr (inl asks)) = asks_cause fault asks
    one_import_cause fault (inr (inr e)) = memory fault e

  pub walk_cause : (fs : List Function) (fault : TableFault) → AreImported l.names l.main.imports fs → IsWalkCause l l.main.imports fs fault → IsTableCause l fault
  walk_cause fs fault all h = (let s = all.each h.0 h.1 h.2 h.3 h.4 in one_import_cause h.1 s.0 h.2 (has_at l.main.imports h.0 h.1 h.3) s.1 fault h.5)

  -- ---- exports

  module _ (f : Function) (h : Has (exported_functions l.names.world) f) where
    typed_cause : (fault : TableFault) → IsTypedCause l f fault → IsTableCause l fault
    typed_cause fault (inl (inl (e, none))) = to fault missing e (f, h, none)
    typed_cause fault (inl (inr (inl (e, unclear)))) = to fault ambiguous e (inr (inl (f, h, unclear)))
    typed_cause fault (inl (inr (inr e))) = memory fault e
    typed_cause fault (inr (e, m)) = to fault wrong_type e (inl (of_export f m.place m.export h m.is m.there m.mistyped))

    one_export_cause : (fault : TableFault) → IsExportCause l f fault → IsTableCause l fault
    one_export_cause fault (inl typed) = typed_cause fault typed
    one_export_cause fault (inr (r, asks, cause)) = options_cause GuestExport r fault (exported f refl h asks) cause

  pub exports_cause : (fs : List Function) (fault : TableFault) → fs ≡ exported_functions l.names.world → IsExportsCause l fs fault → IsTableCause l fault
  exports_cause fs fault are (inl (f, h, cause)) = one_export_cause f (subst (λ (gs : List Function). Has gs f) are h) fault cause
  exports_cause fs fault are (inr e) = memory fault e

  pub apart_cause : (fs : List Function) (fault : TableFault) → fs ≡ exported_functions l.names.world → IsApartCause l fs fault → IsTableCause l fault
  apart_cause fs fault are (inl (e, inl h)) = coming fault e (hook h)
  apart_cause fs fault are (inl (e, inr (inl h))) = coming fault e (initialize h)
  apart_cause fs fault are (inl (e, inr (inr (f, h, s)))) = coming fault e (post_return f (subst (λ (gs : List Function). Has gs f) are h) s)
  apart_cause fs fault are (inr e) = memory fault e
