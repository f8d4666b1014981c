-- Interfaces whose types are made of theirs and of those of earlier ones.
use Rattle.std.proofs.Common.{◌≡◌, ℕ, zero, suc, ◌+◌, ◌<◌, ◌≤◌, Bool, true, false, List, [], ◌∷◌, ◌++◌, ◌⊎◌, inl, inr, Option, Some, None, String, map, length, refl, sym, subst, ap, ◌∙◌, arith}
use Rattle.std.proofs.lemmas.Bool.{eq-eqb}
use Rattle.std.proofs.lemmas.Option.{same_Some, slice_get_within}
use Rattle.std.specs.Prelude.{slice_get, flat_map, if◌then◌else◌}
use Rattle.std.specs.declared.alloc.Global.{Global}
use Rattle.wit_types.specs.Passed.wit_order-Order.{Has}
use Rattle.wit_types.specs.declared.kind.«Type».{«Type» as Ref}
use Rattle.wit_types.specs.declared.kind.«Type».TheVariants as ref
use Rattle.wit_types.specs.declared.kind.TypeDefKind.{TypeDefKind}
use Rattle.wit_types.specs.declared.kind.TypeDefKind.TheVariants as kind
use Rattle.wit_types.specs.declared.interface.Interface.{Interface}
use Rattle.wit_types.specs.declared.interface.TypeDef.{TypeDef}
use Rattle.wit_types.specs.declared.interface.TypeOwner.{TypeOwner}
use Rattle.wit_types.specs.declared.interface.TypeOwner.TheVariants as belongs
use Rattle.wit_reach.specs.Deps.{alias_target, interface_of, is_of_interface, but_own, owned, at_target, def_dep}
use Rattle.wit_reach.specs.Holding.{IsUpTo, IsMadeUpTo, listed_types, functions_ids, AreNamedOwned, IsTypeUnder, HoldTheirTypes, ListedTypesAreAll, HeldAreInOrder}
use Rattle.wit_reach.specs.Ids.{kind_ids}
use Rattle.wit_reach.specs.Types.{IsMadeOf, AreTypesBackward}
use Rattle.wit_types.proofs.Passed.wit_order-Lists.{has_was}
use Rattle.wit_reach.proofs.Ends.{closed_ends}
use Rattle.wit_reach.proofs.Growing.{get_same}
use Rattle.wit_reach.proofs.Lists.{has_append, has_parts}

-- ---- lists

pub has_mapped : {X Y : Type 0} (f : X → Y) (xs : List X) (y : Y) → Has (map f xs) y → (x : X) × Has xs x × (f x ≡ y)
has_mapped f [] y h = absurd h
has_mapped f (x ∷ xs) y (inl here) = (x, inl refl, sym here)
has_mapped f (x ∷ xs) y (inr there) = (let r = has_mapped f xs y there in (r.0, inr r.1, r.2))

pub mapped_has : {X Y : Type 0} (f : X → Y) (xs : List X) (x : X) → Has xs x → Has (map f xs) (f x)
mapped_has f [] x h = absurd h
mapped_has f (y ∷ xs) x (inl here) = inl (ap f here)
mapped_has f (y ∷ xs) x (inr later) = inr (mapped_has f xs x later)

pub has_flat : {X : Type 0} (f : X → List ℕ) (xs : List X) (i : ℕ) → Has (flat_map f xs) i → (x : X) × Has xs x × Has (f x) i
has_flat f [] i h = absurd h
has_flat {X} f (x ∷ xs) i h = elim (has_parts (f x) (flat_map f xs) i h) as (λ _. (y : X) × Has (x ∷ xs) y × Has (f y) i) [
  | inl here ↦ (x, inl refl, here)
  | inr later ↦ (let r = has_flat f xs i later in (r.0, inr r.1, r.2))
]

pub flat_has : {X : Type 0} (f : X → List ℕ) (xs : List X) (x : X) (i : ℕ) → Has xs x → Has (f x) i → Has (flat_map f xs) i
flat_has f [] x i h k = absurd h
flat_has {X} f (y ∷ xs) x i (inl here) k = has_was (f y) (flat_map f xs) i (subst (λ (z : X). Has (f z) i) here k)
flat_has f (y ∷ xs) x i (inr later) k = has_append (f y) (flat_map f xs) i (flat_has f xs x i later k)

pub got : {X : Type 0} (xs : List X) (k : ℕ) → k < length xs → (x : X) × (slice_get xs k ≡ Some x)
got [] k less = absurd (omega (arith, less))
got (x ∷ xs) zero less = (x, refl)
got (x ∷ xs) (suc k) less = got xs k (omega (arith, less))

-- ---- what uses a type of another interface

-- it is another name of a type of that interface, to which it doesn't belong itself
pub record IsAliasOf (ds : List TypeDef) (d : TypeDef) (j : ℕ) : Type 0 where
  pub target : ℕ
  pub of : TypeDef
  pub kind_is : d.kind ≡ kind.Alias (ref.Id target)
  pub there : slice_get ds target ≡ Some of
  pub owner : of.owner ≡ belongs.Interface j
  pub other : is_of_interface j d.owner ≡ false

interface_is : (o : TypeOwner) (j : ℕ) → interface_of o ≡ Some j → o ≡ belongs.Interface j
interface_is (belongs.Interface i) j h = ap (λ (k : ℕ). belongs.Interface k) (same_Some i j h)
interface_is (belongs.World w) j h = absurd cc
interface_is belongs.None j h = absurd cc

cond_some : (b : Bool) (i j : ℕ) → (if b then None else Some i) ≡ Some j → (b ≡ false) × (i ≡ j)
cond_some true i j h = absurd cc
cond_some false i j h = (refl, same_Some i j h)

module _ (ds : List TypeDef) (d : TypeDef) (j : ℕ) where
  of_owner : (k : ℕ) → d.kind ≡ kind.Alias (ref.Id k) → (of : TypeDef) → slice_get ds k ≡ Some of → (o : Option ℕ) → interface_of of.owner ≡ o → but_own d.owner o ≡ Some j → IsAliasOf ds d j
  of_owner k e of at None is h = absurd cc
  of_owner k e of at (Some i) is h =
      let c = cond_some (is_of_interface i d.owner) i j h in
      record {
        target = k;
        of = of;
        kind_is = e;
        there = at;
        owner = interface_is of.owner j (is ∙ ap (λ (n : ℕ). Some n) c.1);
        other = ap (λ (n : ℕ). is_of_interface n d.owner) (sym c.1) ∙ c.0;
      }

  of_def : (k : ℕ) → d.kind ≡ kind.Alias (ref.Id k) → (o : Option TypeDef) → slice_get ds k ≡ o → owned o d.owner ≡ Some j → IsAliasOf ds d j
  of_def k e None at h = absurd cc
  of_def k e (Some of) at h = of_owner k e of at (interface_of of.owner) refl h

  of_ref : (r : Ref) → d.kind ≡ kind.Alias r → owned (at_target ds (alias_target (kind.Alias r))) d.owner ≡ Some j → IsAliasOf ds d j
  of_ref (ref.Id k) e h = of_def k e (slice_get ds k) refl h
  of_ref _ e h = absurd cc

  of_kind : (k : TypeDefKind) → d.kind ≡ k → owned (at_target ds (alias_target k)) d.owner ≡ Some j → IsAliasOf ds d j
  of_kind (kind.Alias r) e h = of_ref r e h
  of_kind _ e h = absurd cc

  pub alias_of : def_dep ds d ≡ Some j → IsAliasOf ds d j
  alias_of h = of_kind d.kind refl h

  -- and what is so uses it
  pub of_alias : IsAliasOf ds d j → def_dep ds d ≡ Some j
  of_alias a =
      ap (λ (k : TypeDefKind). owned (at_target ds (alias_target k)) d.owner) a.kind_is ∙ ap (λ (o : Option TypeDef). owned o d.owner) a.there ∙ ap (λ (o : TypeOwner). but_own d.owner (interface_of o)) a.owner
      ∙ ap (λ (b : Bool). if b then None else Some j) a.other

-- ---- so interfaces are in order

pub held_in_order : HeldAreInOrder
held_in_order others types own hold k j d at (i, has, (x, at_x, dep)) =
    let e = has_mapped (λ (e : String Global × ℕ). e.1) d.types.entries i has in
    let under = hold.theirs k d e.0 at e.1 in
    let f = alias_of types x j dep in
    let made : IsMadeOf types i f.target = (x, at_x, subst (λ (n : TypeDefKind). Has (kind_ids n) f.target) (sym f.kind_is) (inl refl)) in
    let up : j ≤ others + k = subst (IsUpTo (others + k)) f.owner (hold.types_use k i d at has f.target f.of (f.target ∷ [], (made, refl)) f.there) in
    let same : x ≡ under.type_def = same_Some x under.type_def (sym at_x ∙ ap (slice_get types) (sym e.2) ∙ under.there) in
    let its : x.owner ≡ belongs.Interface (others + k) = ap (λ (y : TypeDef). y.owner) same ∙ under.its in
    let no : is_of_interface j x.owner ≡ false = f.other in
    let apart : (others + k ≡ j → ⊥) = λ one. (let yes : is_of_interface j x.owner ≡ true = ap (is_of_interface j) its ∙ eq-eqb (others + k) j one in cc) in
    omega (arith, up, apart)

-- ---- and all types of interfaces are so, where all stand in them

pub listed_are_all : ListedTypesAreAll
listed_are_all types interfaces there listed made i a (d, at, of) =
    let x = got interfaces a (there i a d at of) in
    let behind : a ≡ 0 + a = omega arith in
    let has = listed i a x.0 x.1 (d, at, of ∙ ap (λ (n : ℕ). Some n) behind) in
    λ k e reach at_k. subst (λ (n : ℕ). IsUpTo n e.owner) (sym behind) (made a i x.0 x.1 has k e reach at_k)

-- ---- what one of these is made of

pub made_from : (ds : List TypeDef) (a i j : ℕ) → IsMadeOf ds i j → IsMadeUpTo ds a i → IsMadeUpTo ds a j
made_from ds a i j made up k d reach at = up k d (j ∷ reach.0, (made, reach.1)) at

-- ---- with more types, and more interfaces

module _ (types more : List TypeDef) (back : AreTypesBackward types) where
  made_more : (a s : ℕ) → s < length types → IsMadeUpTo types a s → IsMadeUpTo (types ++ more) a s
  made_more a s low up k d reach at =
      let all = closed_ends (IsMadeOf (types ++ more)) (λ (i : ℕ). (i < length types) × IsMadeUpTo types a i) step s reach.0 k (low, up) reach.1 in
      all.1 k d ([], refl) (sym (get_same types more k all.0) ∙ at)
    where
      step : (i j : ℕ) → (i < length types) × IsMadeUpTo types a i → IsMadeOf (types ++ more) i j → (j < length types) × IsMadeUpTo types a j
      step i j (less, made) (e, there, has) =
          let here : slice_get types i ≡ Some e = sym (get_same types more i less) ∙ there in
          let down : j < i = back i j (e, here, has) in
          (omega (arith, less, down), made_from types a i j (e, here, has) made)

  under_more : (n : ℕ) (e : String Global × ℕ) → IsTypeUnder types n e → IsTypeUnder (types ++ more) n e
  under_more n e u = record { type_def = u.type_def; there = get_same types more e.1 (slice_get_within types e.1 u.type_def u.there) ∙ u.there; its = u.its; own_name = u.own_name; named = u.named; is = u.is }

  pub held_more : (others : ℕ) (own : List Interface) → ((k : ℕ) (d : Interface) → slice_get own k ≡ Some d → (i : ℕ) → Has (functions_ids d) i → i < length types) → AreNamedOwned (types ++ more)
      → HoldTheirTypes others types own → HoldTheirTypes others (types ++ more) own
  held_more others own there named hold = record {
    named = named;
    theirs = λ k d e at h. under_more (others + k) e (hold.theirs k d e at h);
    types_use = λ k s d at h.
        (let e = has_mapped (λ (z : String Global × ℕ). z.1) d.types.entries s h in
        let u = hold.theirs k d e.0 at e.1 in
        made_more (others + k) s (subst (λ (n : ℕ). n < length types) e.2 (slice_get_within types e.0.1 u.type_def u.there)) (hold.types_use k s d at h));
    functions_use = λ k s d at h. made_more (others + k) s (there k d at s h) (hold.functions_use k s d at h);
  }

split : (xs ys : List Interface) (i : ℕ) (d : Interface) → slice_get (xs ++ ys) i ≡ Some d → (slice_get xs i ≡ Some d) ⊎ ((k : ℕ) × (i ≡ length xs + k) × (slice_get ys k ≡ Some d))
split [] ys i d h = inr (i, omega arith, h)
split (x ∷ xs) ys zero d h = inl h
split (x ∷ xs) ys (suc i) d h = elim (split xs ys i d h) as (λ _. (slice_get (x ∷ xs) (suc i) ≡ Some d) ⊎ ((k : ℕ) × (suc i ≡ length (x ∷ xs) + k) × (slice_get ys k ≡ Some d))) [
  | inl a ↦ inl a
  | inr b ↦ inr (b.0, (let e : i ≡ length xs + b.0 = b.1 in omega (arith, e)), b.2)
]

module _ (types : List TypeDef) (own more : List Interface) (first : HoldTheirTypes 0 types own) (later : HoldTheirTypes (length own) types more) where
  of_either : (P : ℕ → Interface → Type 0) → ((k : ℕ) (d : Interface) → slice_get own k ≡ Some d → P (0 + k) d) → ((k : ℕ) (d : Interface) → slice_get more k ≡ Some d → P (length own + k) d)
      → (k : ℕ) (d : Interface) → slice_get (own ++ more) k ≡ Some d → P (0 + k) d
  of_either P a b k d at = elim (split own more k d at) as (λ _. P (0 + k) d) [
    | inl h ↦ a k d h
    | inr h ↦ (let e : length own + h.0 ≡ 0 + k = (let f : k ≡ length own + h.0 = h.1 in omega (arith, f)) in subst (λ (n : ℕ). P n d) e (b h.0 d h.2))
  ]

  pub held_append : HoldTheirTypes 0 types (own ++ more)
  held_append = record {
    named = first.named;
    theirs = λ k d e at h. of_either (λ n x. (z : String Global × ℕ) → Has x.types.entries z → IsTypeUnder types n z) (λ i x g z. first.theirs i x z g) (λ i x g z. later.theirs i x z g) k d at e h;
    types_use = λ k s d at h. of_either (λ n x. (z : ℕ) → Has (listed_types x) z → IsMadeUpTo types n z) (λ i x g z. first.types_use i z x g) (λ i x g z. later.types_use i z x g) k d at s h;
    functions_use = λ k s d at h. of_either (λ n x. (z : ℕ) → Has (functions_ids x) z → IsMadeUpTo types n z) (λ i x g z. first.functions_use i z x g) (λ i x g z. later.functions_use i z x g) k d at s h;
  }
