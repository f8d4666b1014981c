-- Names, one by one.
use Rattle.std.proofs.Common.{◌≡◌, ◌⊎◌, ℕ, zero, suc, ◌+◌, Bool, true, false, List, [], ◌∷◌, ◌++◌, Option, Some, None, inl, inr, refl, ap, ◌∙◌, arith}
use Rattle.std.specs.List.{AllByRecursion as Each, flat_map}
use Rattle.std.specs.Prelude.{map, slice_get, String, string_bytes}
use Rattle.std.specs.declared.alloc.Global.{Global}
use Rattle.std.proofs.lemmas.Bool.{eqb-true}
use Rattle.wit_order.specs.Order.{Has}
use Rattle.wit_types.specs.declared.function.Function.{Function}
use Rattle.wit_types.specs.declared.interface.TypeDef.{TypeDef}
use Rattle.wit_types.specs.declared.interface.TypeOwner.{TypeOwner}
use Rattle.wit_types.specs.declared.interface.TypeOwner.TheVariants as belongs
use Rattle.type_writing.specs.Passed.type_meaning-Items.{Items, no_items, and_item, Entry}
use Rattle.type_writing.specs.Writing.{Setting, name_given, name_of, names_of_types}
use Rattle.component_imports.specs.Passed.type_sinks-Imports.{names_in, entries_of}
use Rattle.component_imports.specs.Passed.type_sinks-Inside.{is_of}
use Rattle.component_imports.specs.Interfaces.{owned_name, owned_names}
use Rattle.core_links.specs.Needed.{IsPartOf, empty, with_it, without}

-- ---- lists

pub each_from : {X : Type 0} (P : X → Type 0) (xs : List X) → ((x : X) → Has xs x → P x) → Each P xs
each_from P [] all = tt
each_from P (x ∷ xs) all = (all x (inl refl), each_from P xs (λ y h. all y (inr h)))

pub has_split : {X : Type 0} (xs ys : List X) (x : X) → Has (xs ++ ys) x → Has xs x ⊎ Has ys x
has_split [] ys x h = inr h
has_split (y ∷ xs) ys x (inl is) = inl (inl is)
has_split (y ∷ xs) ys x (inr h) = elim (has_split xs ys x h) as (λ _. Has (y ∷ xs) x ⊎ Has ys x) [ inl a ↦ inl (inr a) | inr b ↦ inr b ]

pub has_mapped : {X Y : Type 0} (f : X → Y) (xs : List X) (y : Y) → Has (map f xs) y → (x : X) × Has xs x × (y ≡ f x)
has_mapped f [] y h = absurd h
has_mapped f (x ∷ xs) y (inl is) = (x, inl refl, is)
has_mapped f (x ∷ xs) y (inr h) = let r = has_mapped f xs y h in (r.0, inr r.1, r.2)

has_flat : {X Y : Type 0} (f : X → List Y) (xs : List X) (y : Y) → Has (flat_map f xs) y → (x : X) × Has xs x × Has (f x) y
has_flat f [] y h = absurd h
has_flat {X} {Y} f (x ∷ xs) y h = elim (has_split (f x) (flat_map f xs) y h) as (λ _. (z : X) × Has (x ∷ xs) z × Has (f z) y) [
  | inl here ↦ (x, inl refl, here)
  | inr later ↦ (let r = has_flat f xs y later in (r.0, inr r.1, r.2))
]

pub part_has : {X : Type 0} (xs ys : List X) (x : X) → IsPartOf xs ys → Has xs x → Has ys x
part_has _ _ x empty h = absurd h
part_has _ _ x (with_it y xs ys p) (inl is) = inl is
part_has _ _ x (with_it y xs ys p) (inr h) = inr (part_has xs ys x p h)
part_has _ _ x (without y xs ys p) h = inr (part_has xs ys x p h)

-- ---- items

pub has_item_name : (items : Items) (e : Entry) → Has (entries_of items) e → Has (names_in items) e.name
has_item_name no_items e h = absurd h
has_item_name (and_item n i more) e (inl is) = inl (ap (λ (x : Entry). x.name) is)
has_item_name (and_item n i more) e (inr h) = inr (has_item_name more e h)

-- ---- names of types

given : (b : Bool) (o : Option (String Global)) (n : List ℕ) → Has (name_given b o) n → (x : String Global) × (b ≡ true) × (o ≡ Some x) × (n ≡ string_bytes x)
given true (Some x) n (inl is) = (x, refl, refl, is)
given true (Some x) n (inr h) = absurd h
given true None n h = absurd h
given false o n h = absurd h

pub record IsNameOfOne (types : List TypeDef) (ids : List ℕ) (counts : TypeOwner → Bool) (n : List ℕ) : Type 0 where
  pub id : ℕ
  pub among : Has ids id
  pub def : TypeDef
  pub there : slice_get types id ≡ Some def
  pub its : counts def.owner ≡ true
  pub name : String Global
  pub named : def.name ≡ Some name
  pub is : n ≡ string_bytes name

pub type_name : (s : Setting) (types : List TypeDef) (ids : List ℕ) (n : List ℕ) → Has (names_of_types s types ids) n → IsNameOfOne types ids s.is_own n
type_name s types ids n h = let r = has_flat (λ (id : ℕ). name_of s (slice_get types id)) ids n h in by r.0 r.1 (slice_get types r.0) refl r.2
  where
    by : (id : ℕ) → Has ids id → (o : Option TypeDef) → slice_get types id ≡ o → Has (name_of s o) n → IsNameOfOne types ids s.is_own n
    by id among None at k = absurd k
    by id among (Some d) at k = (let g = given (s.is_own d.owner) d.name n k in record { id = id; among = among; def = d; there = at; its = g.1; name = g.0; named = g.2; is = g.3 })

pub own_type_name : (own : ℕ) (types : List TypeDef) (ids : List ℕ) (n : List ℕ) → Has (owned_names own types ids) n → IsNameOfOne types ids (is_of own) n
own_type_name own types ids n h = let r = has_flat (λ (id : ℕ). owned_name own (slice_get types id)) ids n h in by r.0 r.1 (slice_get types r.0) refl r.2
  where
    by : (id : ℕ) → Has ids id → (o : Option TypeDef) → slice_get types id ≡ o → Has (owned_name own o) n → IsNameOfOne types ids (is_of own) n
    by id among None at k = absurd k
    by id among (Some d) at k = (let g = given (is_of own d.owner) d.name n k in record { id = id; among = among; def = d; there = at; its = g.1; name = g.0; named = g.2; is = g.3 })

pub owner_is : (own : ℕ) (o : TypeOwner) → is_of own o ≡ true → o ≡ belongs.Interface own
owner_is own (belongs.World w) h = absurd cc
owner_is own (belongs.Interface i) h = ap (λ (j : ℕ). belongs.Interface j) (eqb-true i own h)
owner_is own belongs.None h = absurd cc
