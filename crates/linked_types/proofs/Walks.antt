-- Walks over functions and over types.
use Rattle.std.proofs.Common.{◌≡◌, ℕ, zero, suc, ◌+◌, ◌<◌, ◌≤◌, ◌⊎◌, List, [], ◌∷◌, ◌++◌, take, length, get_or, Some, None, Result, Ok, Err, Bor, inl, inr, sym, subst, ap, ◌∙◌}
use Rattle.std.proofs.lemmas.List.{take_more, take_all, map_more, append_assoc, append-nil}
use Rattle.std.proofs.lemmas.Grind.{flat_map-append}
use Rattle.std.proofs.lemmas.Option.{same_Some, slice_get-get_or, slice_get-map}
use Rattle.std.specs.Prelude.{slice_get, option_map, OnOk, IfErr}
use Rattle.wit_types.specs.declared.function.Function.{Function}
use Rattle.wit_types.specs.declared.interface.TypeDef.{TypeDef}
use Rattle.wit_types.specs.Passed.wit_order-Order.{Has}
use Rattle.wit_reach.specs.Ids.{function_ids}
use Rattle.wit_reach.specs.Paths.{AreEnds}
use Rattle.wit_reach.specs.Types.{IsMadeOf, AreTypesBackward, AreTypesThere}
use Rattle.wit_reach.proofs.Ends.{ends_below}
use Rattle.linked_types.specs.Kinds.{kind_fault}
use Rattle.linked_types.specs.Reached.{function_fault, functions, ids_of, AreLinked, IsFunctionCause, AreTypesLinked, IsTypeCause, MayBeLinked, IsCause}
use Rattle.linked_types.specs.declared.fault.TypeFault.{TypeFault}

-- ---- functions

pub has_one_more : {X : Type 0} (xs : List X) (y x : X) → Has (xs ++ y ∷ []) x → (x ≡ y) ⊎ Has xs x
has_one_more [] y x (inl e) = inl e
has_one_more [] y x (inr h) = inr h
has_one_more (z ∷ xs) y x (inl e) = inr (inl e)
has_one_more (z ∷ xs) y x (inr h) = elim (has_one_more xs y x h) as (λ _. (x ≡ y) ⊎ Has (z ∷ xs) x) [ inl last ↦ inl last | inr was ↦ inr (inr was) ]

pub has_at : {X : Type 0} (xs : List X) (k : ℕ) (x : X) → slice_get xs k ≡ Some x → Has xs x
has_at [] k x h = absurd cc
has_at (y ∷ xs) zero x h = inl (sym (same_Some y x h))
has_at (y ∷ xs) (suc k) x h = inr (has_at xs k x h)

module _ (fs : List (Bor Function)) (k : ℕ) (f : Bor Function) (lt : k < length fs) (here : f ≡ get_or fs k f) where
  abbrev one : Function
  one = f.now

  taken : functions (take (k + 1) fs) ≡ functions (take k fs) ++ one ∷ []
  taken = map_more (λ (g : Bor Function). g.now) fs k f lt ∙ ap (λ (g : Bor Function). functions (take k fs) ++ g.now ∷ []) (sym here)

  pub ids_next : (start old new : List ℕ) → old ≡ start ++ ids_of (functions (take k fs)) → new ≡ old ++ function_ids one → new ≡ start ++ ids_of (functions (take (k + 1) fs))
  ids_next start old new was now =
      now ∙ ap (λ l. l ++ function_ids one) was ∙ append_assoc start (ids_of (functions (take k fs))) (function_ids one)
      ∙ ap (λ l. start ++ l) (ap (λ l. ids_of (functions (take k fs)) ++ l) (sym (append-nil (function_ids one))) ∙ sym (flat_map-append function_ids (functions (take k fs)) (one ∷ [])) ∙ ap ids_of (sym taken))

  pub linked_next : AreLinked (functions (take k fs)) → function_fault one ≡ None → AreLinked (functions (take (k + 1) fs))
  linked_next was now g has = elim (has_one_more (functions (take k fs)) one g (subst (λ (l : List Function). Has l g) taken has)) as (λ _. function_fault g ≡ None) [
    | inl last ↦ ap function_fault last ∙ now
    | inr before ↦ was g before
  ]

  one_there : Has (functions fs) one
  one_there = has_at (functions fs) k one (slice_get-map (λ (g : Bor Function). g.now) fs k ∙ ap (option_map (λ (g : Bor Function). g.now)) (slice_get-get_or fs k f lt ∙ ap (λ (g : Bor Function). Some g) (sym here)))

  pub one_cause : (e : TypeFault) → function_fault one ≡ Some e → IsFunctionCause (functions fs) e
  one_cause e h = inl (one, one_there, h)

pub ids_all : (fs : List (Bor Function)) (k : ℕ) (start ids : List ℕ) → length fs ≤ k → ids ≡ start ++ ids_of (functions (take k fs)) → ids ≡ start ++ ids_of (functions fs)
ids_all fs k start ids past e = e ∙ ap (λ (l : List (Bor Function)). start ++ ids_of (functions l)) (take_all k fs past)

pub linked_all : (fs : List (Bor Function)) (k : ℕ) → length fs ≤ k → AreLinked (functions (take k fs)) → AreLinked (functions fs)
linked_all fs k past linked = subst (λ (l : List (Bor Function)). AreLinked (functions l)) (take_all k fs past) linked

-- ---- types

module _ (types : List TypeDef) (ids : List ℕ) (k id : ℕ) (lt : k < length ids) (here : id ≡ get_or ids k id) where
  id_there : Has ids id
  id_there = has_at ids k id (slice_get-get_or ids k id lt ∙ ap (λ (i : ℕ). Some i) (sym here))

  pub type_there : AreTypesThere types ids → id < length types
  type_there there = there id id_there

  pub types_next : (t : TypeDef) → slice_get types id ≡ Some t → AreTypesLinked types (take k ids) → kind_fault t.kind ≡ None → AreTypesLinked types (take (k + 1) ids)
  types_next t at was now i e has there = elim (has_one_more (take k ids) id i (subst (λ (l : List ℕ). Has l i) (take_more ids k id lt ∙ ap (λ (j : ℕ). take k ids ++ j ∷ []) (sym here)) has)) as (λ _. kind_fault e.kind ≡ None) [
    | inl last ↦ (let same : t ≡ e = same_Some t e (sym at ∙ ap (slice_get types) (sym last) ∙ there) in ap (λ (x : TypeDef). kind_fault x.kind) (sym same) ∙ now)
    | inr before ↦ was i e before there
  ]

  pub type_cause : (t : TypeDef) (e : TypeFault) → slice_get types id ≡ Some t → kind_fault t.kind ≡ Some e → IsTypeCause types ids e
  type_cause t e at h = (id, t, id_there, at, h)

pub types_all : (types : List TypeDef) (ids : List ℕ) (k : ℕ) → length ids ≤ k → AreTypesLinked types (take k ids) → AreTypesLinked types ids
types_all types ids k past linked = subst (AreTypesLinked types) (take_all k ids past) linked

-- ---- both

-- the types that are asked for, and those that are looked at
pub record Looked (types : List TypeDef) (fs : List Function) (asked order : List ℕ) : Type 0 where
  pub asked_are : asked ≡ ids_of fs
  pub ends : AreEnds (IsMadeOf types) (Has asked) order

module _ (types : List TypeDef) (fs : List Function) (asked order : List ℕ) (looked : Looked types fs asked order) where
  ends : AreEnds (IsMadeOf types) (Has (ids_of fs)) order
  ends = subst (λ (l : List ℕ). AreEnds (IsMadeOf types) (Has l) order) looked.asked_are looked.ends

  pub order_there : AreTypesBackward types → AreTypesThere types (ids_of fs) → AreTypesThere types order
  order_there backward there = ends_below (IsMadeOf types) (length types) (ids_of fs) order backward there ends

  pub if_linked : (r : Result (Unit {0}) TypeFault) → AreLinked fs → OnOk r (AreTypesLinked types order) → OnOk r (MayBeLinked types fs)
  if_linked (Ok x) linked h = record { functions = linked; types_are = λ i d reached at. h i d (ends.all i reached.0 reached.1 reached.2) at }
  if_linked (Err e) linked h = tt

  pub if_not : (r : Result (Unit {0}) TypeFault) → IfErr r (IsTypeCause types order) → IfErr r (IsCause types fs)
  if_not (Ok x) h = tt
  if_not (Err e) (i, d, has, at, h) = (let s = ends.only i has in inr (i, d, (s.0, s.1, s.2), at, h))
