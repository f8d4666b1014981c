-- Entries that are put one behind the other stand each where its key first does.
use Rattle.std.proofs.Common.{◌≡◌, Bool, true, false, ◌||◌, List, [], ◌∷◌, ◌++◌, None, Some, Option, cond, refl, sym, ap, subst, ◌∙◌, append_assoc}
use Rattle.std.proofs.lemmas.List.{append-nil}
use Rattle.std.specs.Cmp.{IsEquivalence}
use Rattle.std.specs.Prelude.{is_some}
use Rattle.std.specs.Map.{lookup}
use Rattle.wit_sides.specs.Sides.{with_entries, AreUnited, no_entries, first_of_its_key, key_again}

or_true : (a b : Bool) → (b ≡ true → a ≡ true) → a ≡ (a || b)
or_true true b f = refl
or_true false true f = f refl
or_true false false f = refl

module _ {K V : Type 0} (eq : K → K → Bool) (laws : IsEquivalence eq) where
  abbrev there : K → List (K × V) → Bool
  there k es = is_some (lookup (eq k) es)

  one_more : (b c : Bool) (o p : Option V) (v : V) → is_some p ≡ (is_some o || c) → is_some (cond b (Some v) p) ≡ (is_some (cond b (Some v) o) || c)
  one_more true c o p v e = refl
  one_more false c o p v e = e

  last : (b : Bool) (v : V) → is_some (cond b (Some v) None) ≡ b
  last true v = refl
  last false v = refl

  there_behind : (k : K) (es : List (K × V)) (e : K × V) → there k (es ++ e ∷ []) ≡ (there k es || eq k e.0)
  there_behind k [] e = last (eq k e.0) e.1
  there_behind k (x ∷ es) e = one_more (eq k x.0) (eq k e.0) (lookup (eq k) es) (lookup (eq k) (es ++ e ∷ [])) x.1 (there_behind k es e)

  by_either : (k l : K) → eq k l ≡ true → (es : List (K × V)) → there k es ≡ there l es
  by_either k l e [] = refl
  by_either k l e (x ∷ es) = rw (laws.congr k l x.0 e) (same (eq l x.0) (lookup (eq k) es) (lookup (eq l) es) x.1 (by_either k l e es))
    where
      same : (b : Bool) (o p : Option V) (v : V) → is_some o ≡ is_some p → is_some (cond b (Some v) o) ≡ is_some (cond b (Some v) p)
      same true o p v e = refl
      same false o p v e = e

  -- the same keys are there
  abbrev HaveSame : List (K × V) → List (K × V) → Type 0
  HaveSame side es = (k : K) → there k side ≡ there k es

  again_same : (es side : List (K × V)) (e : K × V) → HaveSame side es → there e.0 es ≡ true → HaveSame side (es ++ e ∷ [])
  again_same es side e same has k = same k ∙ or_true (there k es) (eq k e.0) (λ t. by_either k e.0 t es ∙ has) ∙ sym (there_behind k es e)

  first_same : (es side : List (K × V)) (e : K × V) → HaveSame side es → HaveSame (side ++ e ∷ []) (es ++ e ∷ [])
  first_same es side e same k = there_behind k side e ∙ ap (λ (b : Bool). b || eq k e.0) (same k) ∙ sym (there_behind k es e)

  put : (b : Bool) (e : K × V) (more : List (K × V)) → ((es side : List (K × V)) → AreUnited eq es side → HaveSame side es → AreUnited eq (es ++ more) (with_entries eq side more))
      → (es side : List (K × V)) → there e.0 side ≡ b → AreUnited eq es side → HaveSame side es → AreUnited eq (es ++ e ∷ more) (with_entries eq (cond b side (side ++ e ∷ [])) more)
  put true e more others es side t u same =
      let has : there e.0 es ≡ true = sym (same e.0) ∙ t in
      subst (λ (xs : List (K × V)). AreUnited eq xs (with_entries eq side more)) (append_assoc es (e ∷ []) more) (others (es ++ e ∷ []) side (key_again es side e u has) (again_same es side e same has))
  put false e more others es side t u same =
      let new : there e.0 es ≡ false = sym (same e.0) ∙ t in
      subst (λ (xs : List (K × V)). AreUnited eq xs (with_entries eq (side ++ e ∷ []) more)) (append_assoc es (e ∷ []) more) (others (es ++ e ∷ []) (side ++ e ∷ []) (first_of_its_key es side e u new) (first_same es side e same))

  united_behind : (more es side : List (K × V)) → AreUnited eq es side → HaveSame side es → AreUnited eq (es ++ more) (with_entries eq side more)
  united_behind [] es side u same = subst (λ (xs : List (K × V)). AreUnited eq xs side) (sym (append-nil es)) u
  united_behind (e ∷ more) es side u same = put (there e.0 side) e more (united_behind more) es side refl u same

  -- all of them
  pub are_united : (es : List (K × V)) → AreUnited eq es (with_entries eq [] es)
  are_united es = united_behind es [] [] no_entries (λ k. refl)
