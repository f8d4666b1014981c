-- A scope of a package sees its own types, what belongs nowhere, and what it takes of others by `use`.
use Rattle.std.proofs.Common.{◌≡◌, ℕ, true, false, List, ◌⊎◌, inl, inr, Option, Some, None, refl, sym, subst, ap, ◌∙◌}
use Rattle.std.proofs.lemmas.Bool.{eqb-true, eq-eqb}
use Rattle.std.proofs.lemmas.Option.{same_Some}
use Rattle.std.specs.Prelude.{slice_get, String, string_bytes}
use Rattle.std.specs.declared.alloc.Global.{Global}
use Rattle.wit_types.specs.declared.kind.TypeDefKind.{TypeDefKind}
use Rattle.wit_types.specs.declared.kind.TypeDefKind.TheVariants as kind
use Rattle.wit_types.specs.declared.kind.«Type».TheVariants as ref
use Rattle.wit_types.specs.declared.interface.TypeDef.{TypeDef}
use Rattle.wit_types.specs.declared.interface.TypeOwner.{TypeOwner}
use Rattle.wit_types.specs.declared.interface.TypeOwner.TheVariants as belongs
use Rattle.wit_order.specs.Order.{Has}
use Rattle.wit_reach.specs.Deps.{is_of_interface, IsDepOf}
use Rattle.wit_reach.specs.Ids.{kind_ids}
use Rattle.wit_reach.specs.Made.{is_open, IsMadeOfWithin}
use Rattle.wit_reach.specs.Paths.{Reaches}
use Rattle.wit_reach.proofs.Ends.{closed_ends}
use Rattle.wit_reach.proofs.Holding.{alias_of}
use Rattle.wit_arena.specs.Arena.{IsUnnamed}
use Rattle.wit_arena.specs.Shape.{ShapeTree}
use Rattle.wit_arena.specs.Standing.{HasTree}
use Rattle.wit_arena.specs.Tree.{Name, PackageText, Place, in_interface, Owner, Tree}
use Rattle.wit_arena.specs.Unfold.{Owners, kind_tree, named_kind_tree, owner_of, nameless_tree, def_tree_of, trees, IsWhole}
use Rattle.wit_arena.proofs.Unfolding.{def_at}
use Rattle.wit_named_graphs.proofs.Passed.wit_copied_trees-Owners.{then_some}
use Rattle.wit_named_graphs.specs.Passed.wit_uses-Uses.{IsOwn, IsUse, TakesByUse}
use Rattle.wit_named_packages.proofs.Outside.{IsOutside, IsInside, IsForm, name_outside, outside_inside, form_outside, form_no_name, far, far_apart, given, owner_at, IsUsed, IsOfScope, scope_outside, named_owner, named_parts, named_outside, form_tree, name_alias, HasOutside, kind_outside}

-- ---- what an owner sees into

self_open : (by : TypeOwner) → is_open by by ≡ true
self_open belongs.None = refl
self_open (belongs.World w) = eq-eqb w w refl
self_open (belongs.Interface i) = eq-eqb i i refl

open_own : (by o : TypeOwner) → is_open by o ≡ true → (o ≡ belongs.None) ⊎ (o ≡ by)
open_own by belongs.None e = inl refl
open_own (belongs.Interface j) (belongs.Interface i) e = inr (ap (λ (n : ℕ). belongs.Interface n) (eqb-true i j e))
open_own (belongs.World w) (belongs.World v) e = inr (ap (λ (n : ℕ). belongs.World n) (eqb-true v w e))
open_own (belongs.World w) (belongs.Interface i) e = absurd cc
open_own belongs.None (belongs.Interface i) e = absurd cc
open_own (belongs.Interface j) (belongs.World v) e = absurd cc
open_own belongs.None (belongs.World v) e = absurd cc

-- of an interface is not of another
none_other : (j : ℕ) (o : TypeOwner) → is_of_interface j o ≡ false → belongs.Interface j ≡ o → ⊥
none_other j o other same =
    let yes : is_of_interface j (belongs.Interface j) ≡ true = eq-eqb j j refl in
    let no : is_of_interface j (belongs.Interface j) ≡ false = subst (λ (p : TypeOwner). is_of_interface j p ≡ false) (sym same) other in
    (let e : true ≡ false = sym yes ∙ no in cc)

-- ---- types that have names

module _ (me : PackageText) (owners : Owners) (a : List TypeDef) (whole : IsWhole owners (given me) a) where
  abbrev pub Done : List (Option Tree)
  Done = trees owners (given me) a

  abbrev pub HasTreeAt : ℕ → Tree → Type 0
  HasTreeAt i t = HasTree owners (given me) a i t

  -- what a type is where it stands
  def_is : (i : ℕ) (d : TypeDef) (t : Tree) → slice_get a i ≡ Some d → HasTreeAt i t → def_tree_of owners (given me) Done d.name d.owner d.kind ≡ Some t
  def_is i d t at has =
      let here = def_at owners (given me) a i d whole at in
      let same : here.0 ≡ t = same_Some here.0 t (sym here.1 ∙ has) in
      here.2 ∙ ap (λ (u : Tree). Some u) same

  record IsNamed (d : TypeDef) (t : Tree) : Type 0 where
    name : Name
    owner : Owner
    of : owner_of owners d.owner ≡ Some owner
    is : named_kind_tree (given me) Done owner name d.kind ≡ Some t

  named_at : (i : ℕ) (d : TypeDef) (t : Tree) (x : String Global) → slice_get a i ≡ Some d → HasTreeAt i t → d.name ≡ Some x → IsNamed d t
  named_at i d t x at has e =
      let all = subst (λ (n : Option (String Global)). def_tree_of owners (given me) Done n d.owner d.kind ≡ Some t) e (def_is i d t at has) in
      let r = then_some (λ (w : Owner). named_kind_tree (given me) Done w (string_bytes x) d.kind) (owner_of owners d.owner) t all in
      record { name = string_bytes x; owner = r.0; of = r.1; is = r.2 }

  -- of one that is of a scope more than its name is known
  pub scope_known : (o : Place) (i : ℕ) (d : TypeDef) (t : Tree) (x : String Global) → slice_get a i ≡ Some d → HasTreeAt i t → d.name ≡ Some x → IsOfScope me (owner_at me o) t → d.kind ≡ kind.Unknown → ⊥
  scope_known o i d t x at has e is unknown =
      let n = named_at i d t x at has e in
      elim (named_owner me Done n.owner (owner_at me o) n.name d.kind t n.is (scope_outside me (owner_at me o) t is)) as (λ _. ⊥) [
        | inl other ↦ far_apart me (ap (λ (w : Owner). w.package_text) other.1)
        | inr own ↦ own.0 unknown
      ]

-- ---- an arena

-- an interface to which a type belongs that is used
pub record IsUsedOf (Named : ℕ → Type 0) (d : TypeDef) : Type 0 where
  pub interface : ℕ
  pub of : d.owner ≡ belongs.Interface interface
  pub named : Named interface

-- types without names are forms; those of which nothing is known are of interfaces that may be used; of other types the owners are of the package,
-- and what is named in it may be used
pub record IsArena (me : PackageText) (owners : Owners) (Named : ℕ → Type 0) (a : List TypeDef) : Type 0 where
  pub whole : IsWhole owners (given me) a
  pub forms : (i : ℕ) (d : TypeDef) → slice_get a i ≡ Some d → d.name ≡ None → (k : ShapeTree) × IsUnnamed k d
  pub unknown : (i : ℕ) (d : TypeDef) → slice_get a i ≡ Some d → d.kind ≡ kind.Unknown → IsUsedOf Named d
  pub mine : (i : ℕ) (d : TypeDef) (w : Owner) → slice_get a i ≡ Some d → (d.kind ≡ kind.Unknown → ⊥) → owner_of owners d.owner ≡ Some w → w.package_text ≡ me
  pub used : (i : ℕ) (d : TypeDef) (y : Name) → slice_get a i ≡ Some d → (d.kind ≡ kind.Unknown → ⊥) → owner_of owners d.owner ≡ Some (owner_at me (in_interface y)) → IsUsedOf Named d

module _ (me : PackageText) (owners : Owners) (Named : ℕ → Type 0) (a : List TypeDef) (arena : IsArena me owners Named a) where
  abbrev Trees : List (Option Tree)
  Trees = trees owners (given me) a

  abbrev HasTreeHere : ℕ → Tree → Type 0
  HasTreeHere i t = HasTree owners (given me) a i t

  abbrev IsNamedHere : TypeDef → Tree → Type 0
  IsNamedHere d t = IsNamed me owners a arena.whole d t

  -- one without a name is a form, and belongs nowhere
  record IsNameless (d : TypeDef) (t : Tree) : Type 0 where
    owner : d.owner ≡ belongs.None
    form : IsForm t
    is : kind_tree Trees d.kind ≡ Some t

  nameless_at : (i : ℕ) (d : TypeDef) (t : Tree) → slice_get a i ≡ Some d → HasTreeHere i t → d.name ≡ None → IsNameless d t
  nameless_at i d t at has e =
      let f = arena.forms i d at e in
      let whole = subst (λ (n : Option (String Global)). def_tree_of owners (given me) Trees n d.owner d.kind ≡ Some t) e (def_is me owners a arena.whole i d t at has) in
      let is : kind_tree Trees d.kind ≡ Some t = subst (λ (o : TypeOwner). nameless_tree Trees o d.kind ≡ Some t) f.1.owner whole in
      record { owner = f.1.owner; form = form_tree Trees d.kind f.0 t f.1.kind is; is = is }

  -- it has a name, or none
  data Either (d : TypeDef) (t : Tree) : Type 0 where
    a_name : IsNamedHere d t → Either d t
    no_name : IsNameless d t → Either d t

  either_at : (i : ℕ) (d : TypeDef) (t : Tree) → slice_get a i ≡ Some d → HasTreeHere i t → Either d t
  either_at i d t at has = by d.name refl
    where
      by : (n : Option (String Global)) → d.name ≡ n → Either d t
      by None e = no_name (nameless_at i d t at has e)
      by (Some x) e = a_name (named_at me owners a arena.whole i d t x at has e)

  -- a definition stands under its name alone
  defined_outside : (w : Owner) (i : ℕ) (d : TypeDef) → slice_get a i ≡ Some d → (u : Tree) → HasTreeHere i u → IsInside w u → IsOutside w u
  defined_outside w i d at u has = by (either_at i d u at has)
    where
      by : Either d u → IsInside w u → IsOutside w u
      by (a_name n) = named_outside me Trees n.owner w n.name d.kind u n.is
      by (no_name n) = form_outside w u n.form

  -- what is used is of an interface that may be used
  used_at : (i : ℕ) (d : TypeDef) (u : Tree) → slice_get a i ≡ Some d → HasTreeHere i u → IsUsed me u → IsUsedOf Named d
  used_at i d u at has is = by (either_at i d u at has)
    where
      named : (n : IsNamedHere d u) → IsUsed me u → IsUsedOf Named d
      named n (inl (y, of_it)) = elim (named_owner me Trees n.owner (owner_at me (in_interface y)) n.name d.kind u n.is (name_outside (owner_at me (in_interface y)) u of_it)) as (λ _. IsUsedOf Named d) [
        | inl other ↦ arena.unknown i d at other.0
        | inr own ↦ arena.used i d y at own.0 (n.of ∙ ap (λ (w : Owner). Some w) own.1)
      ]
      named n (inr of_far) = elim (named_owner me Trees n.owner (far me) n.name d.kind u n.is (name_outside (far me) u of_far)) as (λ _. IsUsedOf Named d) [
        | inl other ↦ arena.unknown i d at other.0
        | inr own ↦ absurd (far_apart me (ap (λ (w : Owner). w.package_text) (sym own.1) ∙ arena.mine i d n.owner at own.0 n.of))
      ]

      form : IsForm u → IsUsed me u → ⊥
      form f (inl (y, of_it)) = form_no_name (owner_at me (in_interface y)) u f of_it
      form f (inr of_far) = form_no_name (far me) u f of_far

      by : Either d u → IsUsedOf Named d
      by (a_name n) = named n is
      by (no_name n) = absurd (form n.form is)

  -- ---- a scope, which lists types

  module _ (o : Place) (by : TypeOwner)
      (one : (i : ℕ) (d : TypeDef) → slice_get a i ≡ Some d → (d.kind ≡ kind.Unknown → ⊥) → owner_of owners d.owner ≡ Some (owner_at me o) → d.owner ≡ by)
      (listed : ℕ → Type 0) (lists : (i : ℕ) (d : TypeDef) → slice_get a i ≡ Some d → d.owner ≡ by → listed i)
      (of_scope : (i : ℕ) → listed i → (t : Tree) × HasTreeHere i t × IsOfScope me (owner_at me o) t)
    where
      abbrev own : Owner
      own = owner_at me o

      abbrev pub HasOwnOutside : ℕ → Type 0
      HasOwnOutside i = HasOutside Trees own i

      pub listed_outside : (i : ℕ) → listed i → HasOwnOutside i
      listed_outside i h = (let s = of_scope i h in (s.0, s.1, scope_outside me own s.0 s.2))

      -- what has but own names outside is its own, or belongs nowhere
      own_at : (i : ℕ) (d : TypeDef) → slice_get a i ≡ Some d → HasOwnOutside i → IsOwn by d.owner
      own_at i d at (t, has, all) = from (either_at i d t at has)
        where
          from : Either d t → IsOwn by d.owner
          from (a_name n) = elim (named_owner me Trees n.owner own n.name d.kind t n.is all) as (λ _. IsOwn by d.owner) [
            | inl other ↦ absurd (far_apart me (ap (λ (w : Owner). w.package_text) other.1))
            | inr mine ↦ inr (one i d at mine.0 (n.of ∙ ap (λ (w : Owner). Some w) mine.1))
          ]
          from (no_name n) = inl n.owner

      -- another name of a type of an interface that may be used
      pub record IsNamedUse (k i : ℕ) (d e : TypeDef) : Type 0 where
        pub is_listed : listed k
        pub kind_is : d.kind ≡ kind.Alias (ref.Id i)
        pub used : IsUsedOf Named e

      part_named : (k i : ℕ) (d e : TypeDef) (t : Tree) → slice_get a k ≡ Some d → HasTreeHere k t → IsNamedHere d t → is_open by d.owner ≡ true → Has (kind_ids d.kind) i → slice_get a i ≡ Some e → HasOwnOutside i ⊎ IsNamedUse k i d e
      part_named k i d e t at has n open_it among at_e = elim (open_own by d.owner open_it) as (λ _. HasOwnOutside i ⊎ IsNamedUse k i d e) [
        | inl none ↦ absurd (let no : None ≡ Some n.owner = sym (ap (owner_of owners) none) ∙ n.of in cc)
        | inr its ↦
            let here = lists k d at its in
            let s = of_scope k here in
            let same : s.0 ≡ t = same_Some s.0 t (sym s.1 ∙ has) in
            let r = named_parts me Trees n.owner own n.name d.kind t n.is (subst (IsOfScope me own) same s.2) i among in
            elim r.2 as (λ _. HasOwnOutside i ⊎ IsNamedUse k i d e) [
              | inl inside ↦ inl (kind_outside Trees own d.kind r.0 r.1 inside i among (defined_outside own i e at_e))
              | inr is ↦
                  inr
                  (let alias : (d.kind ≡ kind.Alias (ref.Id i)) × HasTreeHere i r.0 = alias_to r.0 r.1 is in
                  record { is_listed = here; kind_is = alias.0; used = used_at i e r.0 at_e alias.1 is })
            ]
      ]
        where
          alias_to : (u : Tree) → kind_tree Trees d.kind ≡ Some u → IsUsed me u → (d.kind ≡ kind.Alias (ref.Id i)) × HasTreeHere i u
          alias_to u h (inl (y, of_it)) = name_alias Trees (owner_at me (in_interface y)) d.kind u h of_it i among
          alias_to u h (inr of_far) = name_alias Trees (far me) d.kind u h of_far i among

      part_at : (k i : ℕ) (d e : TypeDef) → slice_get a k ≡ Some d → HasOwnOutside k → is_open by d.owner ≡ true → Has (kind_ids d.kind) i → slice_get a i ≡ Some e → HasOwnOutside i ⊎ IsNamedUse k i d e
      part_at k i d e at (t, has, all) open_it among at_e = from (either_at k d t at has)
        where
          from : Either d t → HasOwnOutside i ⊎ IsNamedUse k i d e
          from (a_name n) = part_named k i d e t at has n open_it among at_e
          from (no_name n) = inl (kind_outside Trees own d.kind t n.is (outside_inside own t all) i among (defined_outside own i e at_e))

      -- ---- all that it sees

      abbrev Sees : ℕ → Type 0
      Sees k = (d : TypeDef) → slice_get a k ≡ Some d → is_open by d.owner ≡ true → HasOwnOutside k

      sees_part : (k i : ℕ) → Sees k → IsMadeOfWithin by a k i → Sees i
      sees_part k i sees (d, at, open_it, among) e at_e open_e = elim (part_at k i d e at (sees d at open_it) open_it among at_e) as (λ _. HasOwnOutside i) [
        | inl outside ↦ outside
        | inr u ↦ elim (open_own by e.owner open_e) as (λ _. HasOwnOutside i) [
          | inl none ↦ absurd (let no : belongs.None ≡ belongs.Interface u.used.interface = sym none ∙ u.used.of in cc)
          | inr its ↦ listed_outside i (lists i e at_e its)
        ]
      ]

      module _ (start : ℕ → Type 0) (starts : (s : ℕ) → start s → HasOwnOutside s) where
        seen : (s k : ℕ) → start s → Reaches (IsMadeOfWithin by a) s k → Sees k
        seen s k begins reach = closed_ends (IsMadeOfWithin by a) Sees sees_part s reach.0 k (λ d at open_it. starts s begins) reach.1

        pub takes : TakesByUse a by listed start
        takes = record {
          starts = λ s d begins at. own_at s d at (starts s begins);
          parts = λ s k i d e begins reach at open_it among at_e.
              (elim (part_at k i d e at (seen s k begins reach d at open_it) open_it among at_e) as (λ _. IsOwn by e.owner ⊎ IsUse listed k i d e) [
                | inl outside ↦ inl (own_at i e at_e outside)
                | inr u ↦ inr (record { is_listed = u.is_listed; kind_is = u.kind_is; interface = u.used.interface; of = u.used.of })
              ]);
          lists = λ s k d begins reach at its. lists k d at its;
        }

      -- interfaces of which listed types are used have names
      pub dep_named : ((i : ℕ) (d : TypeDef) → slice_get a i ≡ Some d → listed i → d.owner ≡ by) → (i j : ℕ) → listed i → IsDepOf a i j → Named j
      dep_named its i j here (d, at, dep) =
          let f = alias_of a d j dep in
          let mine : d.owner ≡ by = its i d at here in
          let open_it : is_open by d.owner ≡ true = subst (λ (p : TypeOwner). is_open by p ≡ true) (sym mine) (self_open by) in
          let among : Has (kind_ids d.kind) f.target = subst (λ (n : TypeDefKind). Has (kind_ids n) f.target) (sym f.kind_is) (inl refl) in
          elim (part_at i f.target d f.of at (listed_outside i here) open_it among f.there) as (λ _. Named j) [
            | inl outside ↦ elim (own_at f.target f.of f.there outside) as (λ _. Named j) [
              | inl none ↦ absurd (let no : belongs.None ≡ belongs.Interface j = sym none ∙ f.owner in cc)
              | inr same ↦ absurd (none_other j d.owner f.other (sym f.owner ∙ same ∙ sym mine))
            ]
            | inr u ↦ (let one_of : belongs.Interface u.used.interface ≡ belongs.Interface j = sym u.used.of ∙ f.owner in let number : u.used.interface ≡ j = cc in subst Named number u.used.named)
          ]
