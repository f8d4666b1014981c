-- The names in a type's tree are those of what the type is made of.
use Rattle.std.proofs.Common.{◌≡◌, ◌≤◌, ◌<◌, ℕ, List, [], ◌++◌, Option, Some, None, false, refl, sym, ap, subst, ◌∙◌, arith, inl, inr}
use Rattle.std.specs.Prelude.{flat_map, slice_get, nat_eq, String}
use Rattle.std.specs.declared.alloc.Global.{Global}
use Rattle.std.proofs.lemmas.List.{append-nil}
use Rattle.std.proofs.lemmas.List.Folds.{flat_map-map}
use Rattle.std.proofs.lemmas.Bool.{cases_Bool, eqb-true}
use Rattle.wit_order.specs.Order.{Has}
use Rattle.wit_types.specs.declared.kind.«Type».{«Type» as Ref}
use Rattle.wit_types.specs.declared.kind.«Type».TheVariants.{Id}
use Rattle.wit_types.specs.declared.kind.TypeDefKind.{TypeDefKind}
use Rattle.wit_types.specs.declared.kind.TypeDefKind.TheVariants as kinds
use Rattle.wit_types.specs.declared.kind.Field.{Field}
use Rattle.wit_types.specs.declared.kind.Case.{Case}
use Rattle.wit_types.specs.declared.interface.TypeDef.{TypeDef}
use Rattle.wit_types.specs.declared.interface.TypeOwner.{TypeOwner}
use Rattle.wit_types.specs.declared.interface.TypeOwner.TheVariants as belongs
use Rattle.wit_reach.specs.Ids.{ref_ids, part_ids, kind_ids}
use Rattle.wit_reach.specs.Paths.{Reaches}
use Rattle.wit_reach.specs.Types.{IsMadeOf}
use Rattle.wit_reach.specs.Needed.{BelongsTo}
use Rattle.wit_reach.specs.Deps.{interface_of}
use Rattle.wit_order.proofs.Lists.{has_was}
use Rattle.wit_reach.proofs.Lists.{has_append}
use Rattle.wit_reach.proofs.Ends.{reaches_more}
use Rattle.type_sinks.specs.Passed.type_meaning-Tree.{Parts}
use Rattle.type_sinks.specs.Passed.type_writing-Unfolding.{OwnName, WitTree, FormOf, form_of, under_name, Unfolds, unfolds_primitive, unfolds_type, KindUnfolds, unfolds_form, unfolds_alias, PartsUnfold, no_parts, gap_unfolds, part_unfolds}
use Rattle.type_sinks.specs.Inside.{is_of, IsApart, AreApart}
use Rattle.wit_reach.specs.Holding.{IsUpTo, TypesUseEarlier}
use Rattle.component_imports.specs.Order.{EarlierTypesAreApart}

abbrev ids_in : Option FormOf → List ℕ
ids_in None = []
ids_in (Some f) = flat_map part_ids f.parts

-- the parts of a form are what the kind is made of
same_parts : (k : TypeDefKind) (f : FormOf) → form_of k ≡ Some f → flat_map part_ids f.parts ≡ kind_ids k
same_parts (kinds.Record r) f e = sym (ap ids_in e) ∙ flat_map-map part_ids (λ (x : Field). Some x.ty) r.fields.items
same_parts kinds.Resource f e = absurd cc
same_parts (kinds.Handle h) f e = absurd cc
same_parts (kinds.Flags x) f e = sym (ap ids_in e)
same_parts (kinds.Tuple t) f e = sym (ap ids_in e) ∙ flat_map-map part_ids (λ (r : Ref). Some r) t.types.items
same_parts (kinds.Variant v) f e = sym (ap ids_in e) ∙ flat_map-map part_ids (λ (c : Case). c.ty) v.cases.items
same_parts (kinds.Enum x) f e = sym (ap ids_in e)
same_parts (kinds.Option r) f e = sym (ap ids_in e) ∙ append-nil (ref_ids r)
same_parts (kinds.Result r) f e = sym (ap ids_in e) ∙ ap (λ l. part_ids r.ok ++ l) (append-nil (part_ids r.err))
same_parts (kinds.List r) f e = sym (ap ids_in e) ∙ append-nil (ref_ids r)
same_parts (kinds.FixedLengthList r n) f e = sym (ap ids_in e) ∙ append-nil (ref_ids r)
same_parts (kinds.Future x) f e = absurd cc
same_parts (kinds.Stream x) f e = absurd cc
same_parts (kinds.Alias r) f e = absurd cc
same_parts kinds.Unknown f e = absurd cc

-- what a type is made of is reached from it
module _ (types : List TypeDef) (own i a : ℕ) (earlier : TypesUseEarlier types) (of : BelongsTo types i a) (low : a < own) where
  owner_apart : (k : ℕ) (d : TypeDef) → Reaches (IsMadeOf types) i k → slice_get types k ≡ Some d → is_of own d.owner ≡ false
  owner_apart k d r at = by d.owner refl
    where
      by : (o : TypeOwner) → d.owner ≡ o → is_of own o ≡ false
      by (belongs.World w) e = refl
      by belongs.None e = refl
      by (belongs.Interface b) e = elim (cases_Bool (nat_eq b own)) [
        | inl same ↦
            let below : b ≤ a = subst (IsUpTo a) e (earlier i a of k d r at) in
            let is : b ≡ own = eqb-true b own same in
            absurd (omega (arith, below, is, low))
        | inr differ ↦ differ
      ]

  under_apart : (k : ℕ) (d : TypeDef) → Reaches (IsMadeOf types) i k → slice_get types k ≡ Some d → (x : Option (String Global)) (t : WitTree) → IsApart own t → IsApart own (under_name d.owner x t)
  under_apart k d r at None t h = h
  under_apart k d r at (Some x) t h = (owner_apart k d r at, h)

  mutual
    pub ref_apart : (r : Ref) (t : WitTree) → ((k : ℕ) → Has (ref_ids r) k → Reaches (IsMadeOf types) i k) → Unfolds types r t → IsApart own t
    ref_apart r t reach (unfolds_primitive s k h) = tt
    ref_apart r t reach (unfolds_type id d u at kind) =
        let here = reach id (inl refl) in
        under_apart id d here at d.name u (kind_apart d.kind u (λ k h. reaches_more (IsMadeOf types) i id k here (d, at, h)) kind)

    kind_apart : (k : TypeDefKind) (t : WitTree) → ((j : ℕ) → Has (kind_ids k) j → Reaches (IsMadeOf types) i j) → KindUnfolds types k t → IsApart own t
    kind_apart k t reach (unfolds_form l f ts h ps) = parts_apart f.parts ts (λ j has. reach j (subst (λ x. Has x j) (same_parts l f h) has)) ps
    kind_apart k t reach (unfolds_alias s u h) = ref_apart s u reach h

    parts_apart : (ps : List (Option Ref)) (ts : Parts OwnName OwnName) → ((j : ℕ) → Has (flat_map part_ids ps) j → Reaches (IsMadeOf types) i j) → PartsUnfold types ps ts → AreApart own ts
    parts_apart ps ts reach no_parts = tt
    parts_apart ps ts reach (gap_unfolds qs us h) = parts_apart qs us reach h
    parts_apart ps ts reach (part_unfolds r t qs us h hs) = (
      ref_apart r t (λ j has. reach j (has_was (ref_ids r) (flat_map part_ids qs) j has)) h,
      parts_apart qs us (λ j has. reach j (has_append (ref_ids r) (flat_map part_ids qs) j has)) hs,
    )

pub earlier_apart : EarlierTypesAreApart
earlier_apart types earlier own id j d x t at owner low named unfolds =
    ref_apart types own id j earlier (d, at, ap interface_of owner) low (Id id) t (λ k h. elim h as (λ _. Reaches (IsMadeOf types) id k) [ inl e ↦ subst (Reaches (IsMadeOf types) id) (sym e) ([], refl) | inr none ↦ absurd none ]) unfolds
