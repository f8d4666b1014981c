-- Own functions, of which some are read.
use Rattle.std.proofs.Common.{◌≡◌, ℕ, zero, suc, ◌<◌, ◌≤◌, Option, Some, None, option_map, IfSome, Result, Ok, Err, arith, List, [], ◌∷◌, ◌++◌, length, drop, get_or, map, refl, sym, ap, subst, ◌∙◌, Bool, true, false, append_assoc, append-nil}
use Rattle.std.specs.Prelude.{slice_get, unwrap_or}
use Rattle.std.proofs.Math.Seq.{drop-cons}
use Rattle.std.proofs.lemmas.Option.{unwrap_or-slice_get}
use Rattle.wasm_bodies.specs.declared.generated.StartStep.{StartStep}
use Rattle.wasm_bodies.specs.declared.instructions.BodyInstruction.{BodyInstruction}
use Rattle.wasm_bodies.specs.declared.bodies.Bounded.{Bounded}
use Rattle.wasm_bodies.specs.declared.bodies.Body.{Body}
use Rattle.wasm_bodies.specs.Bodies.{body_value}
use Rattle.wasm_bodies.specs.Generated.{BodyShape, trap_stub, table_stand_in, reference_stand_in, hooked_call, start_code, IsStartCode}
use Rattle.generated_modules.specs.Parts.{PartsValue}
use Rattle.generated_modules.specs.Shape.{Shape, IsShape, IsOwn, AreOwn, Does, function_at, code_at, hangs_together}

-- with whatever stands behind this place, these are all
abbrev pub Completes : PartsValue → ℕ → List BodyShape → Type 0
Completes p k front = (bs : List BodyShape) → AreOwn p k (drop k p.functions) (drop k p.code) bs → AreOwn p 0 p.functions p.code (front ++ bs)

-- any that are all begin with these, and the others stand behind this place
abbrev pub Begins : PartsValue → ℕ → List BodyShape → Type 0
Begins p k front = (bs : List BodyShape) → AreOwn p 0 p.functions p.code bs → (left : List BodyShape) × (bs ≡ front ++ left) × AreOwn p k (drop k p.functions) (drop k p.code) left

-- what stands at a place, and what stands behind it
drop_here : {A : Type 0} (xs : List A) (k : ℕ) (d : A) → k < length xs → drop k xs ≡ unwrap_or (slice_get xs k) d ∷ drop (suc k) xs
drop_here xs k d lt = drop-cons xs k d lt ∙ ap (λ x. x ∷ drop (suc k) xs) (sym (unwrap_or-slice_get xs k d))

module _ (p : PartsValue) (k n : ℕ) (next : suc k ≡ n) (fs : k < length p.functions) (cs : k < length p.code) where
  abbrev t : ℕ
  t = unwrap_or (slice_get p.functions k) 0

  here : (bs : List BodyShape) → AreOwn p k (drop k p.functions) (drop k p.code) bs → AreOwn p k (t ∷ drop (suc k) p.functions) (code_at p k ∷ drop (suc k) p.code) bs
  here bs h = rw (sym (drop_here p.functions k 0 fs), sym (drop_here p.code k [] cs)) h

  back : (bs : List BodyShape) → AreOwn p k (t ∷ drop (suc k) p.functions) (code_at p k ∷ drop (suc k) p.code) bs → AreOwn p k (drop k p.functions) (drop k p.code) bs
  back bs h = rw (drop_here p.functions k 0 fs, drop_here p.code k [] cs) h

  pub completes_more : (front : List BodyShape) (b : BodyShape) → IsOwn p k (function_at p k) (code_at p k) b → Completes p k front → Completes p n (front ++ b ∷ [])
  completes_more front b own h = subst (λ (j : ℕ). Completes p j (front ++ b ∷ [])) next
      (λ bs more. subst (λ (l : List BodyShape). AreOwn p 0 p.functions p.code l) (sym (append_assoc front (b ∷ []) bs)) (h (b ∷ bs) (back (b ∷ bs) (own, more))))

  first_left : (left : List BodyShape) → AreOwn p k (t ∷ drop (suc k) p.functions) (code_at p k ∷ drop (suc k) p.code) left →
      (b : BodyShape) × (rest : List BodyShape) × (left ≡ b ∷ rest) × IsOwn p k (function_at p k) (code_at p k) b × AreOwn p (suc k) (drop (suc k) p.functions) (drop (suc k) p.code) rest
  first_left [] h = absurd h
  first_left (b ∷ rest) h = (b, rest, refl, h.0, h.1)

  pub begins_more : (front : List BodyShape) (b : BodyShape) → ((c : BodyShape) → IsOwn p k (function_at p k) (code_at p k) c → b ≡ c) → Begins p k front → Begins p n (front ++ b ∷ [])
  begins_more front b one h = subst (λ (j : ℕ). Begins p j (front ++ b ∷ [])) next (λ bs all.
      let old = h bs all in
      let f = first_left old.0 (here old.0 old.2) in
      let same : b ≡ f.0 = one f.0 f.3 in
      (f.1, old.1 ∙ ap (λ (l : List BodyShape). front ++ l) f.2 ∙ ap (λ (c : BodyShape). front ++ c ∷ f.1) (sym same) ∙ sym (append_assoc front (b ∷ []) f.1), f.4))

  pub none_here : (front : List BodyShape) → ((c : BodyShape) → IsOwn p k (function_at p k) (code_at p k) c → ⊥) → Begins p k front → (bs : List BodyShape) → AreOwn p 0 p.functions p.code bs → ⊥
  none_here front none h bs all =
      let old = h bs all in
      let f = first_left old.0 (here old.0 old.2) in
      none f.0 f.3

same_items : (is : List BodyInstruction) → is ≡ map (λ i. i) is
same_items [] = refl
same_items (i ∷ is) = ap (λ (l : List BodyInstruction). i ∷ l) (same_items is)

abbrev codes : List (Bounded Body) → List (List BodyInstruction)
codes bs = map (λ b. body_value b.0) bs

code_here : (bs : List (Bounded Body)) (k : ℕ) (b : Bounded Body) → k < length bs → b ≡ get_or bs k b → b.0.instructions.items ≡ unwrap_or (slice_get (codes bs) k) []
code_here [] k b lt e = absurd (omega (arith, lt))
code_here (c ∷ bs) zero b lt e = same_items b.0.instructions.items ∙ ap (λ (d : Bounded Body). body_value d.0) e
code_here (c ∷ bs) (suc k) b lt e = code_here bs k b (omega (arith, lt)) e

pub code_there : (bs ds : List (Bounded Body)) (k : ℕ) (b : Bounded Body) → ds ≡ bs → k < length ds → b ≡ get_or ds k b → b.0.instructions.items ≡ unwrap_or (slice_get (codes bs) k) []
code_there bs ds k b same lt e = code_here ds k b lt e ∙ ap (λ (l : List (Bounded Body)). unwrap_or (slice_get (codes l) k) []) same

none_there : (bs : List (Bounded Body)) (k : ℕ) → length bs ≤ k → [] ≡ unwrap_or (slice_get (codes bs) k) []
none_there [] k le = refl
none_there (c ∷ bs) zero le = absurd (omega (arith, le))
none_there (c ∷ bs) (suc k) le = none_there bs k (omega (arith, le))

pub code_none : (bs ds : List (Bounded Body)) (k : ℕ) → ds ≡ bs → length ds ≤ k → [] ≡ unwrap_or (slice_get (codes bs) k) []
code_none bs ds k same le = none_there ds k le ∙ ap (λ (l : List (Bounded Body)). unwrap_or (slice_get (codes l) k) []) same

as_many : (p : PartsValue) (k : ℕ) (ts : List ℕ) (iss : List (List BodyInstruction)) (bs : List BodyShape) → AreOwn p k ts iss bs → length ts ≡ length iss
as_many p k [] [] bs h = refl
as_many p k [] (is ∷ iss) bs h = absurd h
as_many p k (t ∷ ts) [] bs h = absurd h
as_many p k (t ∷ ts) (is ∷ iss) [] h = absurd h
as_many p k (t ∷ ts) (is ∷ iss) (b ∷ bs) h = ap suc (as_many p (suc k) ts iss bs h.1)

pub same_length : (p : PartsValue) (bs : List BodyShape) → AreOwn p 0 p.functions p.code bs → length p.functions ≡ length p.code
same_length p bs h = as_many p 0 p.functions p.code bs h

pub completed : (p : PartsValue) (k : ℕ) (front : List BodyShape) → drop k p.functions ≡ [] → drop k p.code ≡ [] → Completes p k front → AreOwn p 0 p.functions p.code front
completed p k front ts iss h = subst (λ (l : List BodyShape). AreOwn p 0 p.functions p.code l) (append-nil front) (h [] (rw (ts, iss) tt))

none_more : (p : PartsValue) (k : ℕ) (left : List BodyShape) → AreOwn p k [] [] left → left ≡ []
none_more p k [] h = refl
none_more p k (b ∷ left) h = absurd h

pub begun : (p : PartsValue) (k : ℕ) (front bs : List BodyShape) → drop k p.functions ≡ [] → drop k p.code ≡ [] → Begins p k front → AreOwn p 0 p.functions p.code bs → bs ≡ front
begun p k front bs ts iss h all =
    let old = h bs all in
    old.1 ∙ ap (λ (l : List BodyShape). front ++ l) (none_more p k old.0 (rw (sym ts, sym iss) old.2)) ∙ append-nil front

pub start_does : (s : Bool) (n : ℕ) (is : List BodyInstruction) (b : BodyShape) → s ≡ true → Does s n is b → (ss : List StartStep) × IsStartCode is ss
start_does true n is (start_code ss) e h = (ss, h)
start_does true n is trap_stub e h = absurd h
start_does true n is (table_stand_in slot t) e h = absurd h
start_does true n is (reference_stand_in g t) e h = absurd h
start_does true n is (hooked_call before f after) e h = absurd h
start_does false n is b e h = absurd cc

pub no_value : {A B : Type 0} (f : A → B) (r : Option A) (x : B) → r ≡ None → option_map f r ≡ Some x → ⊥
no_value f None x e h = absurd cc
no_value f (Some y) x e h = absurd cc

pub value_is : {A B : Type 0} (f : A → B) (r : Option A) (x : A) (y : B) → r ≡ Some x → option_map f r ≡ Some y → f x ≡ y
value_is f None x y e h = absurd cc
value_is f (Some z) x y e h = cc

pub value_holds : {A : Type 0} (P : A → Type 0) (r : Option A) (x : A) → r ≡ Some x → IfSome r P → P x
value_holds {A = A} P r x e h = subst (λ (o : Option A). IfSome o P) e h

pub not_both : {A E : Type 0} (r : Result A E) (x : A) (e : E) → r ≡ Ok x → r ≡ Err e → ⊥
not_both (Ok y) x e h k = absurd cc
not_both (Err d) x e h k = absurd cc

true_is_false : true ≡ false → ⊥
true_is_false e = absurd cc

shape_is : (s : Shape) (p : PartsValue) (bs : List BodyShape) → s.parts ≡ p → s.bodies ≡ bs → s ≡ record { parts = p; bodies = bs }
shape_is s p bs e f = ap (λ (q : PartsValue). record { parts = q; bodies = s.bodies }) e ∙ ap (λ (b : List BodyShape). record { parts = p; bodies = b }) f

-- no shape has these bodies where this one doesn't hang together
pub other_shape : (p : PartsValue) (bs : List BodyShape) (s : Shape) → bs ≡ s.bodies → IsShape p s → hangs_together (record { parts = p; bodies = bs }) ≡ false → ⊥
other_shape p bs s same h not =
    let whole : s ≡ record { parts = p; bodies = bs } = shape_is s p bs h.parts (sym same) in
    true_is_false (sym h.hangs ∙ ap hangs_together whole ∙ not)
