-- Types that come with an included world belong where those do of which they are copies, and to no interface.
use Rattle.std.proofs.Common.{◌≡◌, ℕ, ◌<◌, ◌≤◌, Bool, true, false, List, [], ◌∷◌, ◌++◌, zero, suc, inl, inr, Option, Some, None, String, refl, sym, ap, ◌∙◌, subst, arith, length}
use Rattle.std.proofs.lemmas.Bool.{cases_lt}
use Rattle.std.proofs.lemmas.Option.{same_Some}
use Rattle.std.specs.Prelude.{slice_get}
use Rattle.std.specs.declared.alloc.Global.{Global}
use Rattle.wit_types.specs.Passed.wit_order-Order.{Has}
use Rattle.wit_types.specs.declared.interface.Interface.{Interface}
use Rattle.wit_types.specs.declared.interface.TypeDef.{TypeDef}
use Rattle.wit_types.specs.declared.interface.TypeOwner.{TypeOwner}
use Rattle.wit_types.specs.declared.interface.TypeOwner.TheVariants as belongs
use Rattle.wit_types.specs.declared.world.IncludeName.{IncludeName}
use Rattle.wit_types.specs.declared.world.World.{World}
use Rattle.wit_reach.specs.Deps.{interface_of}
use Rattle.wit_reach.specs.Holding.{AreNamedOwned, AreListed, listed_types}
use Rattle.wit_reach.specs.Lists.{AreOwnersThere}
use Rattle.wit_reach.specs.Types.{AreWorldTypes, is_local}
use Rattle.wit_reach.proofs.Growing.{get_same}
use Rattle.wit_reach.proofs.Local.{stays_local}
use Rattle.wit_uses.specs.Passed.wit_copies-Copies.{Copies, copied_owner, IsCopiedDef, AreCopied, no_types, one_more}
use Rattle.wit_uses.specs.Passed.wit_copies-Same.{text_of}
use Rattle.wit_uses.specs.Passed.wit_includes-Included as renamed
use Rattle.wit_uses.specs.Passed.wit_placed-Order.{AreNamelessFree}
use Rattle.wit_uses.specs.Passed.wit_includes-Included.{is_of_world, IsRenamedName, IsRenamedDef, AreRenamedDefs, AreIncludedTypes, copies_behind}

-- ---- what holds of each type holds of each copy

abbrev AreAll : (TypeDef → Type 0) → List TypeDef → Type 0
AreAll P ds = (i : ℕ) (d : TypeDef) → slice_get ds i ≡ Some d → P d

module _ (P : TypeDef → Type 0) (of_copy : (c : Copies) (from into : ℕ) (d e : TypeDef) → IsCopiedDef c from into d e → P d → P e) (of_renamed : (names : List IncludeName) (w : ℕ) (d e : TypeDef) → IsRenamedDef names w d e → P d → P e) where
  all_with : (d : TypeDef) (ds : List TypeDef) → P d → AreAll P ds → AreAll P (d ∷ ds)
  all_with d ds here there zero e at = subst P (same_Some d e at) here
  all_with d ds here there (suc i) e at = there i e at

  all_append : (ds es : List TypeDef) → AreAll P ds → AreAll P es → AreAll P (ds ++ es)
  all_append [] es a b = b
  all_append (d ∷ ds) es a b = all_with d (ds ++ es) (a zero d refl) (all_append ds es (λ i e at. a (suc i) e at) b)

  -- only what is copied counts
  copies_all : (c : Copies) (from into : ℕ) (types : List TypeDef) (ids : List ℕ) (copied : List TypeDef) → ((i : ℕ) (d : TypeDef) → Has ids i → slice_get types i ≡ Some d → P d) → AreCopied c from into types ids copied → AreAll P copied
  copies_all c from into types _ _ all no_types = λ i d at. absurd cc
  copies_all c from into types _ _ all (one_more i d e is es at copied more) = all_with e es (of_copy c from into d e copied (all i d (inl refl) at)) (copies_all c from into types is es (λ j x has at_j. all j x (inr has) at_j) more)

  renamed_all : (names : List IncludeName) (w : ℕ) (ds es : List TypeDef) → AreAll P ds → AreRenamedDefs names w ds es → AreAll P es
  renamed_all names w _ _ all renamed.no_types = all
  renamed_all names w _ _ all (renamed.one_more d e ds es one more) = all_with e es (of_renamed names w d e one (all zero d refl)) (renamed_all names w ds es (λ i f at. all (suc i) f at) more)

  included_new : (names : List IncludeName) (from into : ℕ) (types : List TypeDef) (own : List ℕ) (new : List TypeDef) → ((i : ℕ) (d : TypeDef) → Has own i → slice_get types i ≡ Some d → P d) → AreIncludedTypes names from into types own new → AreAll P new
  included_new names from into types own new all h = renamed_all names into h.0 new (copies_all (copies_behind types own) from into types own h.0 all h.1) h.2

  included_all : (names : List IncludeName) (from into : ℕ) (types : List TypeDef) (own : List ℕ) (new : List TypeDef) → AreAll P types → AreIncludedTypes names from into types own new → AreAll P (types ++ new)
  included_all names from into types own new all h = all_append types new all (included_new names from into types own new (λ i d has at. all i d at) h)

-- ---- interfaces that are there

owner_copied : (from into : ℕ) (o : TypeOwner) → interface_of (copied_owner from into o) ≡ interface_of o
owner_copied from into (belongs.World w) = refl
owner_copied from into (belongs.Interface i) = refl
owner_copied from into belongs.None = refl

renamed_owner : (names : List IncludeName) (b : Bool) (d : TypeDef) (x : Option (String Global)) (e : TypeDef) → IsRenamedName names b d x e → e.owner ≡ d.owner
renamed_owner names true d (Some x) e h = ap (λ (t : TypeDef). t.owner) h.2
renamed_owner names true d None e h = ap (λ (t : TypeDef). t.owner) h
renamed_owner names false d x e h = ap (λ (t : TypeDef). t.owner) h

pub included_owners : (n : ℕ) (names : List IncludeName) (from into : ℕ) (types : List TypeDef) (own : List ℕ) (new : List TypeDef) → AreOwnersThere n types → AreIncludedTypes names from into types own new → AreOwnersThere n (types ++ new)
included_owners n names from into types own new there h i j d at of =
    included_all (λ (x : TypeDef). (k : ℕ) → interface_of x.owner ≡ Some k → k < n)
    (λ c from into x y copied below k is. below k (sym (owner_copied from into x.owner) ∙ (ap interface_of (sym copied.2.owner_is) ∙ is)))
    (λ names w x y one below k is. below k (ap interface_of (sym (renamed_owner names (is_of_world w x.owner) x x.name y one)) ∙ is))
    names from into types own new (λ i x at k is. there i k x at is) h i d at j of

-- ---- interfaces that have their types

-- what is a world's own belongs to no interface
local_free : (w : ℕ) (o : TypeOwner) → is_local w o ≡ true → interface_of o ≡ None
local_free w (belongs.World v) e = refl
local_free w (belongs.Interface i) e = absurd cc
local_free w belongs.None e = refl

-- nor does what comes with it
included_free : (names : List IncludeName) (from into : ℕ) (types : List TypeDef) (world : World) (own : List ℕ) (new : List TypeDef) → AreWorldTypes from types world own → AreIncludedTypes names from into types own new
    → (i : ℕ) (d : TypeDef) → slice_get new i ≡ Some d → interface_of d.owner ≡ None
included_free names from into types world own new are h =
    included_new (λ (x : TypeDef). interface_of x.owner ≡ None)
    (λ c from into x y copied none. ap interface_of copied.2.owner_is ∙ owner_copied from into x.owner ∙ none)
    (λ names w x y one none. ap interface_of (renamed_owner names (is_of_world w x.owner) x x.name y one) ∙ none)
    names from into types own new own_free h
  where
    own_free : (i : ℕ) (d : TypeDef) → Has own i → slice_get types i ≡ Some d → interface_of d.owner ≡ None
    own_free i d has at =
        let o = are.only i has in
        let l = stays_local from types o.0 o.2.0 i o.1.1 o.2.1 in
        let same : l.0 ≡ d = same_Some l.0 d (sym l.1 ∙ at) in
        local_free from d.owner (subst (λ (x : TypeDef). is_local from x.owner ≡ true) same l.2)

free_behind : (types new : List TypeDef) → ((i : ℕ) (d : TypeDef) → slice_get new i ≡ Some d → interface_of d.owner ≡ None) → (i : ℕ) (d : TypeDef) → length types ≤ i → slice_get (types ++ new) i ≡ Some d → interface_of d.owner ≡ None
free_behind [] new free i d past at = free i d at
free_behind (x ∷ types) new free zero d past at = absurd (omega (arith, past))
free_behind (x ∷ types) new free (suc i) d past at = free_behind types new free i d (omega (arith, past)) at

pub included_listed : (interfaces : List Interface) (names : List IncludeName) (from into : ℕ) (types : List TypeDef) (world : World) (own : List ℕ) (new : List TypeDef) → AreWorldTypes from types world own → AreIncludedTypes names from into types own new
    → AreListed 0 types interfaces → AreListed 0 (types ++ new) interfaces
included_listed interfaces names from into types world own new are h listed i k d at (t, at_t, of) =
    elim (cases_lt i (length types)) as (λ _. Has (listed_types d) i) [
      | inl less ↦ listed i k d at (t, sym (get_same types new i less) ∙ at_t, of)
      | inr past ↦ absurd (let free : interface_of t.owner ≡ None = free_behind types new (included_free names from into types world own new are h) i t past at_t in cc)
    ]

-- ---- types with names

-- it has no name, or belongs somewhere
abbrev IsNamedOwned : TypeDef → Type 0
IsNamedOwned d = (x : String Global) → d.name ≡ Some x → d.owner ≡ belongs.None → ⊥

copied_none : (from into : ℕ) (o : TypeOwner) → copied_owner from into o ≡ belongs.None → o ≡ belongs.None
copied_none from into (belongs.World w) e = absurd cc
copied_none from into (belongs.Interface i) e = absurd cc
copied_none from into belongs.None e = refl

has_text : (n m : Option (String Global)) (x : String Global) → text_of m ≡ text_of n → m ≡ Some x → (y : String Global) × (n ≡ Some y)
has_text None m x same e = absurd (let f : text_of (Some x) ≡ text_of None = sym (ap text_of e) ∙ same in cc)
has_text (Some y) m x same e = (y, refl)

named_copy : (c : Copies) (from into : ℕ) (d e : TypeDef) → IsCopiedDef c from into d e → IsNamedOwned d → IsNamedOwned e
named_copy c from into d e (clone, same, to) owned x named none =
    let y = has_text d.name clone.name x same.name (sym to.name ∙ named) in
    owned y.0 y.1 (copied_none from into d.owner (sym to.owner_is ∙ none))

named_renamed : (names : List IncludeName) (b : Bool) (d e : TypeDef) (n : Option (String Global)) → d.name ≡ n → IsRenamedName names b d n e → IsNamedOwned d → IsNamedOwned e
named_renamed names true d e (Some y) at h owned x named none = owned y at (sym (renamed_owner names true d (Some y) e h) ∙ none)
named_renamed names true d e None at h owned x named none = subst IsNamedOwned (sym h) owned x named none
named_renamed names false d e n at h owned x named none = subst IsNamedOwned (sym h) owned x named none

pub included_named : (names : List IncludeName) (from into : ℕ) (types : List TypeDef) (own : List ℕ) (new : List TypeDef) → AreNamedOwned types → AreIncludedTypes names from into types own new → AreNamedOwned (types ++ new)
included_named names from into types own new named h i d x at =
    included_all IsNamedOwned named_copy (λ names w y z one. named_renamed names (is_of_world w y.owner) y z y.name refl one) names from into types own new (λ i y at x. named i y x at) h i d at x

-- ---- types without names

-- it has a name, or belongs nowhere
abbrev IsFree : TypeDef → Type 0
IsFree d = d.name ≡ None → d.owner ≡ belongs.None

has_no_text : (n m : Option (String Global)) → text_of m ≡ text_of n → m ≡ None → n ≡ None
has_no_text None m same e = refl
has_no_text (Some x) m same e = absurd (let f : text_of None ≡ text_of (Some x) = sym (ap text_of e) ∙ same in cc)

free_copy : (c : Copies) (from into : ℕ) (d e : TypeDef) → IsCopiedDef c from into d e → IsFree d → IsFree e
free_copy c from into d e (clone, same, to) free none = to.owner_is ∙ ap (copied_owner from into) (free (has_no_text d.name clone.name same.name (sym to.name ∙ none)))

free_renamed : (names : List IncludeName) (b : Bool) (d e : TypeDef) (n : Option (String Global)) → d.name ≡ n → IsRenamedName names b d n e → IsFree d → IsFree e
free_renamed names true d e (Some y) at (z, renamed, is) free none = absurd (let f : Some z ≡ None = sym (ap (λ (x : TypeDef). x.name) is) ∙ none in cc)
free_renamed names true d e None at h free none = subst IsFree (sym h) free none
free_renamed names false d e n at h free none = subst IsFree (sym h) free none

pub included_nameless : (names : List IncludeName) (from into : ℕ) (types : List TypeDef) (own : List ℕ) (new : List TypeDef) → AreNamelessFree types → AreIncludedTypes names from into types own new → AreNamelessFree (types ++ new)
included_nameless names from into types own new free h =
    included_all IsFree free_copy (λ names w y z one. free_renamed names (is_of_world w y.owner) y z y.name refl one) names from into types own new free h
