-- What is imported is needed, and interfaces stand in the order of their ids.
use Rattle.std.proofs.Common.{◌≡◌, ◌⊎◌, ◌<◌, ◌+◌, ℕ, zero, suc, Bool, true, false, List, [], ◌∷◌, ◌++◌, length, Some, None, inl, inr, refl, sym, ap, subst, ◌∙◌, arith}
use Rattle.std.proofs.lemmas.List.{map-append}
use Rattle.std.specs.Prelude.{map, slice_get, flat_map}
use Rattle.wit_order.specs.Order.{Has}
use Rattle.wit_order.proofs.Lists.{has_was}
use Rattle.wit_types.specs.declared.function.Function.{Function}
use Rattle.wit_types.specs.declared.world_key.WorldKey.{WorldKey}
use Rattle.wit_types.specs.declared.interface.TypeDef.{TypeDef}
use Rattle.wit_types.specs.declared.interface.TypeOwner.{TypeOwner}
use Rattle.wit_reach.specs.Ids.{function_ids}
use Rattle.wit_reach.specs.Lists.{AreOwnersThere}
use Rattle.wit_reach.specs.Made.{IsMadeOfWithin}
use Rattle.wit_reach.specs.Needed.{AreNeeded as AreNeededTypes, BelongsTo}
use Rattle.wit_reach.specs.Paths.{AreRising, Reaches}
use Rattle.wit_reach.specs.Types.{IsMadeOf}
use Rattle.wit_reach.proofs.Holding.{got, has_flat, flat_has}
use Rattle.wit_reach.proofs.Lists.{has_append, has_parts}
use Rattle.wit_reach.proofs.Seen.{path_over}
use Rattle.component_imports.specs.Interfaces.{ids_of, asked, is_needed, name_if, names_from}
use Rattle.component_imports.proofs.Needing.{functions_asked, got_below, some_needed}
use Rattle.core_links.specs.Needed.{IsKeyOf, IsNeeded}
use Rattle.right_components.specs.Passed.link_table-Linking.{Linking, types_of, exported_functions, IsLinked, imported, exported}
use Rattle.right_components.proofs.Passed.link_table-Pairwise.{placed}
use Rattle.right_components.specs.Needed.{IsTypeNeeded, IsInterfaceNeeded, by_type, by_function}
use Rattle.linked_imports.specs.Imports.{AreNeeded, own_types}
use Rattle.linked_imports.proofs.Names.{has_mapped}

-- ---- interfaces that are needed, by rising ids

abbrev id_if : Bool → ℕ → List ℕ
id_if true i = i ∷ []
id_if false i = []

abbrev pub ids_needed : ℕ → List (List ℕ) → List (List Function) → List ℕ
ids_needed k [] linked = []
ids_needed k (ids ∷ needed) [] = []
ids_needed k (ids ∷ needed) (fs ∷ linked) = id_if (is_needed ids fs) k ++ ids_needed (suc k) needed linked

name_of_one : (name : ℕ → List ℕ) (b : Bool) (k : ℕ) → map name (id_if b k) ≡ name_if b (name k)
name_of_one name true k = refl
name_of_one name false k = refl

pub names_needed : (name : ℕ → List ℕ) (k : ℕ) (needed : List (List ℕ)) (linked : List (List Function)) → map name (ids_needed k needed linked) ≡ names_from name k needed linked
names_needed name k [] linked = refl
names_needed name k (ids ∷ needed) [] = refl
names_needed name k (ids ∷ needed) (fs ∷ linked) =
    map-append name (id_if (is_needed ids fs) k) (ids_needed (suc k) needed linked) ∙ (λ i. name_of_one name (is_needed ids fs) k i ++ names_needed name (suc k) needed linked i)

-- one of them, counted from a number on
pub record IsNeededFrom (k : ℕ) (needed : List (List ℕ)) (linked : List (List Function)) (id : ℕ) : Type 0 where
  pub index : ℕ
  pub is : id ≡ k + index
  pub ids : List ℕ
  pub fs : List Function
  pub needed_there : slice_get needed index ≡ Some ids
  pub linked_there : slice_get linked index ≡ Some fs
  pub counts : is_needed ids fs ≡ true

pub needed_from : (k : ℕ) (needed : List (List ℕ)) (linked : List (List Function)) (id : ℕ) → Has (ids_needed k needed linked) id → IsNeededFrom k needed linked id
needed_from k [] linked id h = absurd h
needed_from k (ids ∷ needed) [] id h = absurd h
needed_from k (ids ∷ needed) (fs ∷ linked) id h = elim (has_parts (id_if (is_needed ids fs) k) (ids_needed (suc k) needed linked) id h) as (λ _. IsNeededFrom k (ids ∷ needed) (fs ∷ linked) id) [
  | inl here ↦ first (is_needed ids fs) refl here
  | inr later ↦
      (let r = needed_from (suc k) needed linked id later in
      let e = r.is in
      record { index = suc r.index; is = omega (arith, e); ids = r.ids; fs = r.fs; needed_there = r.needed_there; linked_there = r.linked_there; counts = r.counts })
]
  where
    first : (b : Bool) → is_needed ids fs ≡ b → Has (id_if b k) id → IsNeededFrom k (ids ∷ needed) (fs ∷ linked) id
    first true counted (inl is) = record { index = zero; is = omega (arith, is); ids = ids; fs = fs; needed_there = refl; linked_there = refl; counts = counted }
    first true counted (inr bad) = absurd bad
    first false counted bad = absurd bad

-- its name is among those of them
pub needed_by_name : (name : ℕ → List ℕ) (needed : List (List ℕ)) (linked : List (List Function)) (n : List ℕ) → Has (names_from name 0 needed linked) n → (id : ℕ) × IsNeededFrom 0 needed linked id × (n ≡ name id)
needed_by_name name needed linked n h =
    let one = has_mapped name (ids_needed 0 needed linked) n (subst (λ (ns : List (List ℕ)). Has ns n) (sym (names_needed name 0 needed linked)) h) in
    (one.0, needed_from 0 needed linked one.0 one.1, one.2)

rising_if : (b : Bool) (k : ℕ) (rest : List ℕ) → AreRising rest → ((id : ℕ) → Has rest id → k < id) → AreRising (id_if b k ++ rest)
rising_if true k rest up above = (above, up)
rising_if false k rest up above = up

pub needed_rise : (k : ℕ) (needed : List (List ℕ)) (linked : List (List Function)) → AreRising (ids_needed k needed linked)
needed_rise k [] linked = tt
needed_rise k (ids ∷ needed) [] = tt
needed_rise k (ids ∷ needed) (fs ∷ linked) =
    rising_if (is_needed ids fs) k (ids_needed (suc k) needed linked) (needed_rise (suc k) needed linked) (λ id h. let e = (needed_from (suc k) needed linked id h).is in omega (arith, e))

there_if : (b : Bool) (k id : ℕ) (rest : List ℕ) → b ≡ true → id ≡ k → Has (id_if b k ++ rest) id
there_if true k id rest counted is = inl is
there_if false k id rest counted is = absurd cc

pub needed_there : (k n id : ℕ) (needed : List (List ℕ)) (linked : List (List Function)) (ids : List ℕ) (fs : List Function) → id ≡ k + n → slice_get needed n ≡ Some ids → slice_get linked n ≡ Some fs → is_needed ids fs ≡ true → Has (ids_needed k needed linked) id
needed_there k n id [] linked ids fs e a b is = absurd cc
needed_there k n id (x ∷ needed) [] ids fs e a b is = absurd cc
needed_there k zero id (x ∷ needed) (y ∷ linked) ids fs e a b is =
    let same : x ≡ ids = cc in
    let others : y ≡ fs = cc in
    there_if (is_needed x y) k id (ids_needed (suc k) needed linked) ((λ i. is_needed (same i) (others i)) ∙ is) (omega (arith, e))
needed_there k (suc n) id (x ∷ needed) (y ∷ linked) ids fs e a b is =
    has_append (id_if (is_needed x y) k) (ids_needed (suc k) needed linked) id (needed_there (suc k) n id needed linked ids fs (omega (arith, e)) a b is)

-- ---- what is asked for is linked

module _ (l : Linking) (own : List Function) (linked : List (List Function)) (all : AreNeeded l own linked) where
  -- a function that is linked takes or gives it
  pub record IsOfLinked (s : ℕ) : Type 0 where
    pub function : Function
    pub linked_is : IsLinked l function
    pub starts : Has (function_ids function) s

  of_own : (s : ℕ) → Has (ids_of own) s → IsOfLinked s
  of_own s h =
      let f = has_flat function_ids own s h in
      let n = all.own_are.each f.0 f.1 in
      record { function = f.0; linked_is = imported n.0 None n.1 n.2; starts = f.2 }

  of_exported : (s : ℕ) → Has (ids_of (exported_functions l.names.world)) s → IsOfLinked s
  of_exported s h = let f = has_flat function_ids (exported_functions l.names.world) s h in record { function = f.0; linked_is = exported f.1; starts = f.2 }

  of_interfaces : (s : ℕ) → Has (flat_map ids_of linked) s → IsOfLinked s
  of_interfaces s h =
      let fs = has_flat ids_of linked s h in
      let at = placed linked fs.0 fs.1 in
      let f = has_flat function_ids fs.0 s fs.2 in
      let n = all.linked_are.each at.0 fs.0 f.0 at.1 f.1 in
      record { function = f.0; linked_is = imported n.2.0 (Some n.0) n.2.1 n.2.2; starts = f.2 }

  pub asked_linked : (s : ℕ) → Has (asked (own_types l own) linked) s → IsOfLinked s
  asked_linked s h = elim (has_parts (own_types l own) (flat_map ids_of linked) s h) as (λ _. IsOfLinked s) [
    | inl a ↦ elim (has_parts (ids_of own) (ids_of (exported_functions l.names.world)) s a) as (λ _. IsOfLinked s) [
      | inl x ↦ of_own s x
      | inr y ↦ of_exported s y
    ]
    | inr b ↦ of_interfaces s b
  ]

  pub reached_is_needed : (s id : ℕ) → Has (asked (own_types l own) linked) s → Reaches (IsMadeOf (types_of l)) s id → IsTypeNeeded l id
  reached_is_needed s id h r = let f = asked_linked s h in record { function = f.function; linked = f.linked_is; start = s; starts = f.starts; reaches = r }

  -- what the world itself sees of it is needed
  pub seen_is_needed : (by : TypeOwner) (s id : ℕ) → Has (own_types l own) s → Reaches (IsMadeOfWithin by (types_of l)) s id → IsTypeNeeded l id
  seen_is_needed by s id h r =
      reached_is_needed s id (has_was (own_types l own) (flat_map ids_of linked) s h) (r.0, path_over (IsMadeOfWithin by (types_of l)) (IsMadeOf (types_of l)) (λ a b u. (u.0, u.1, u.3)) s r.0 id r.1)

  -- ---- and what is linked is asked for

  pub linked_asked : (f : Function) (s : ℕ) → IsLinked l f → Has (function_ids f) s → Has (asked (own_types l own) linked) s
  linked_asked f s (imported i None has stands) h =
      has_was (own_types l own) (flat_map ids_of linked) s (has_was (ids_of own) (ids_of (exported_functions l.names.world)) s (flat_has function_ids own f s (all.own_are.all f (i, has, stands)) h))
  linked_asked f s (imported i (Some key) has stands) h =
      let at = all.linked_are.all key f (i, has, stands) in
      has_append (own_types l own) (flat_map ids_of linked) s (functions_asked linked at.0 at.1 s at.3 (flat_has function_ids at.1 f s at.4 h))
  linked_asked f s (exported has) h =
      has_was (own_types l own) (flat_map ids_of linked) s (has_append (ids_of own) (ids_of (exported_functions l.names.world)) s (flat_has function_ids (exported_functions l.names.world) f s has h))

  -- ---- interfaces

  module _ (needed : List (List ℕ)) (are : AreNeededTypes (length linked) (types_of l) (asked (own_types l own) linked) needed) where
    pub type_needed : (j i : ℕ) (ids : List ℕ) → slice_get needed j ≡ Some ids → Has ids i → IsTypeNeeded l i
    type_needed j i ids at h = let from = ((are.needed j ids at i).0 h).1 in reached_is_needed from.0 i from.1 from.2

    pub interface_needed : (j : ℕ) (ids : List ℕ) (fs : List Function) → slice_get needed j ≡ Some ids → slice_get linked j ≡ Some fs → is_needed ids fs ≡ true → IsInterfaceNeeded l j
    interface_needed j [] [] a b is = absurd cc
    interface_needed j [] (f ∷ fs) a b is = by_function f (all.linked_are.each j (f ∷ fs) f b (inl refl))
    interface_needed j (i ∷ ids) fs a b is = by_type i ((are.needed j (i ∷ ids) a i).0 (inl refl)).0 (type_needed j i (i ∷ ids) a (inl refl))

    pub row_needed : (j i : ℕ) (ids : List ℕ) → slice_get needed j ≡ Some ids → BelongsTo (types_of l) i j → IsTypeNeeded l i → Has ids i
    row_needed j i ids at b n = (are.needed j ids at i).1 (b, (n.start, linked_asked n.function n.start n.linked n.starts, n.reaches))

    pub each_needed : (id : ℕ) → Has (ids_needed 0 needed linked) id → IsInterfaceNeeded l id
    each_needed id h =
        let r = needed_from 0 needed linked id h in
        let e = r.is in
        let same : r.index ≡ id = omega (arith, e) in
        subst (IsInterfaceNeeded l) same (interface_needed r.index r.ids r.fs r.needed_there r.linked_there r.counts)

    pub all_needed : AreOwnersThere (length l.names.known.interfaces) (types_of l) → (id i : ℕ) → BelongsTo (types_of l) i id → IsTypeNeeded l i → Has (ids_needed 0 needed linked) id
    all_needed owners id i b n =
        let below = owners i id b.0 b.1 b.2 in
        let many = all.linked_are.so_many in
        let size = are.size in
        let row = got needed id (omega (arith, below, many, size)) in
        let fs = got linked id (omega (arith, below, many)) in
        let here = row_needed id i row.0 row.1 b n in
        needed_there 0 id id needed linked row.0 fs.0 (omega arith) row.1 fs.1 (some_needed row.0 fs.0 i here)

    some_linked : (ids : List ℕ) (fs : List Function) (f : Function) → Has fs f → is_needed ids fs ≡ true
    some_linked ids [] f h = absurd h
    some_linked [] (g ∷ fs) f h = refl
    some_linked (i ∷ ids) (g ∷ fs) f h = refl

    pub linked_needed : (key : WorldKey) (f : Function) → IsNeeded l.names l.main.imports (Some key) f → (id : ℕ) × IsKeyOf l.names key id × Has (ids_needed 0 needed linked) id
    linked_needed key f n =
        let at = all.linked_are.all key f n in
        let below = got_below linked at.0 at.1 at.3 in
        let size = are.size in
        let row = got needed at.0 (omega (arith, below, size)) in
        (at.0, at.2, needed_there 0 at.0 at.0 needed linked row.0 at.1 (omega arith) row.1 at.3 (some_linked row.0 at.1 f at.4))
