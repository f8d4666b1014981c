-- One world that is included where it stands among others.
use Rattle.std.proofs.Common.{◌≡◌, ℕ, ◌<◌, false, List, [], ◌∷◌, zero, suc, inl, inr, Some, refl, sym, subst, ◌∙◌, Result, Ok, Err, arith, length, get_or}
use Rattle.std.proofs.lemmas.Option.{same_Some}
use Rattle.std.specs.Prelude.{slice_get, IfOk, OnOk}
use Rattle.wit_types.specs.Passed.wit_order-Order.{Has}
use Rattle.wit_types.specs.declared.interface.TypeDef.{TypeDef}
use Rattle.wit_types.specs.declared.world.IncludeName.{IncludeName}
use Rattle.wit_types.specs.declared.world.World.{World}
use Rattle.wit_types.specs.declared.world.WorldInclude.{WorldInclude}
use Rattle.wit_copied_trees.specs.Passed.wit_reach-Types.{AreTypesBackward}
use Rattle.wit_copied_trees.specs.Passed.wit_sides-Known.{are_there}
use Rattle.wit_copied_trees.specs.Passed.wit_includes-declared-worlds-Include.{Include}
use Rattle.wit_copied_trees.specs.Passed.wit_includes-Included.{IsIncluded}
use Rattle.wit_copied_trees.specs.There.{IncludedTypesAreBackward}
use Rattle.wit_joined.specs.declared.includes.Sides.{Sides}
use Rattle.wit_joined.specs.declared.includes.JoinFault.{JoinFault}
use Rattle.wit_joined.specs.declared.includes.JoinFault.TheVariants.{ItemNotFound, IncludeClash, OutOfMemory}
use Rattle.wit_joined.specs.Joined.{state, IsIncludedOne, IsIncludedAt, IsOneCause, IsAtCause, IsIncludesCause}

pub slice_has : {X : Type 0} (xs : List X) (i : ℕ) (x : X) → slice_get xs i ≡ Some x → Has xs x
slice_has [] i x e = absurd cc
slice_has (y ∷ xs) zero x e = inl (sym (same_Some y x e))
slice_has (y ∷ xs) (suc i) x e = inr (slice_has xs i x e)

-- what follows from what a call answers
pub on_ok_from : {T E Q : Type 0} (P : T → Type 0) (r : Result T E) → ((x : T) → P x → Q) → IfOk r P → OnOk r Q
on_ok_from P (Ok x) f h = f x h
on_ok_from P (Err e) f h = tt

module _ (worlds : List World) (id : ℕ) (n : WorldInclude) (one : Include) (w : World) (there : slice_get worlds n.id ≡ Some w) (from_is : one.from ≡ n.id) (into_is : one.into ≡ id) (names_are : one.names.now ≡ n.names.items) (world_is : one.world.now ≡ w) (span_is : one.span ≡ n.span) where
  pub at_place : (old new : List TypeDef) (sides found : Sides) → IsIncludedOne one old sides new found → IsIncludedAt worlds id n (state old sides) (state new found)
  at_place old new sides found o = (
    w,
    o.0,
    there,
    subst (λ (names : List IncludeName). IsIncluded names n.id id old w o.0) names_are
        (subst (λ (from : ℕ). IsIncluded one.names.now from id old w o.0) from_is
        (subst (λ (into : ℕ). IsIncluded one.names.now one.from into old w o.0) into_is
        (subst (λ (v : World). IsIncluded one.names.now one.from one.into old v o.0) world_is o.1))),
    rw (o.2, o.3, o.4) refl,
  )

  pub at_cause : (fault : JoinFault) → IsOneCause one fault → IsAtCause worlds n fault
  at_cause (ItemNotFound at) h = (
    inr (w, there, subst (λ (v : World). are_there n.names.items v ≡ false) world_is (subst (λ (names : List IncludeName). are_there names one.world.now ≡ false) names_are h.0)),
    h.1 ∙ span_is,
  )
  at_cause (IncludeClash at) h = absurd h
  at_cause OutOfMemory h = tt

pub stays_backward : IncludedTypesAreBackward → (one : Include) (old new : List TypeDef) (sides found : Sides) → AreTypesBackward old → IsIncludedOne one old sides new found → AreTypesBackward new
stays_backward law one old new sides found back o =
    subst AreTypesBackward (sym o.2) (law one.names.now one.from one.into one.world.now old o.1.own o.0.types.items back o.1.are_own o.1.brings.types_are).0

-- ---- all of them

pub item_has : {X : Type 0} (xs : List X) (k : ℕ) (x : X) → k < length xs → x ≡ get_or xs k x → Has xs x
item_has [] k x l e = absurd (omega arith)
item_has (y ∷ xs) zero x l e = inl e
item_has (y ∷ xs) (suc k) x l e = inr (item_has xs k x (omega arith) e)

pub all_cause : (worlds : List World) (ns : List WorldInclude) (n : WorldInclude) (fault : JoinFault) → Has ns n → IsAtCause worlds n fault → IsIncludesCause worlds ns fault
all_cause worlds ns n (ItemNotFound at) has h = record { n = n; there = has; missing = h.0; stands = h.1 }
all_cause worlds ns n (IncludeClash at) has h = absurd h
all_cause worlds ns n OutOfMemory has h = tt
