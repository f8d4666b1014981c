-- A format whose reading finds what its form says, and nothing else, and stops where its breaks say, and nowhere else.
use Rattle.std.proofs.Common.{◌≡◌, ℕ, ◌+◌, ◌≤◌, ◌<◌, ◌⊎◌, Bool, true, false, cond, eqb, ltb, List, [], ◌∷◌, ◌++◌, length, take, drop, Result, Ok, Err, refl, sym, ap, subst, ◌∙◌, append_assoc, arith, inl, inr}
use Rattle.std.proofs.lemmas.Bool.{ltb-true, ltb-false, lt-ltb, le-ltb, eqb-true}
use Rattle.std.proofs.lemmas.List.{append-nil, nil_from_length, take_at, drop_at, take-append-drop, length-append, length-take}
use Rattle.binary_grammar.specs.declared.fault.Fault.{Fault}
use Rattle.binary_grammar.specs.declared.fault.Rule.{Rule}
use Rattle.binary_grammar.specs.declared.fault.Rule.TheVariants as rules
use Rattle.binary_grammar.specs.Format.{Format, Whole, Behind, fault_at, wrong, and_then, ◌>>=◌, yield, refuse, judge, such, byte_at, byte, chunk, exactly, begins, everything, keeping, outward, beyond, BreaksInside, sized}

pub record Found {X : Type 0} (f : Format X) (bytes : List ℕ) (x : X) (rest : List ℕ) : Type 0 where
  pub front : List ℕ
  pub parts : bytes ≡ front ++ rest
  pub formed : f.form front x

-- the fault, where more bytes stand behind
abbrev pub moved : Fault → List ℕ → Fault
moved e more = record e { left = e.left + length more }

-- What stays says is that a broken rule stays broken, whatever stands behind: more bytes may mend Short alone.
pub record Law {X : Type 0} (f : Format X) : Type 0 where
  pub found : (bytes : List ℕ) (x : X) (rest : List ℕ) → f.read bytes ≡ Ok (x, rest) → Found f bytes x rest
  pub again : (front : List ℕ) (x : X) (rest : List ℕ) → f.form front x → f.read (front ++ rest) ≡ Ok (x, rest)
  pub within : (bytes : List ℕ) (e : Fault) → f.read bytes ≡ Err e → e.left ≤ length bytes
  pub stops : (bytes : List ℕ) (e : Fault) → f.read bytes ≡ Err e → f.breaks bytes e
  pub broken : (bytes : List ℕ) (e : Fault) → f.breaks bytes e → f.read bytes ≡ Err e
  pub stays : (bytes : List ℕ) (e : Fault) (more : List ℕ) → (e.rule ≡ rules.Short → ⊥) → f.breaks bytes e → f.breaks (bytes ++ more) (moved e more)

pub record WholeLaw {X : Type 0} (w : Whole X) : Type 0 where
  pub found : (bytes : List ℕ) (x : X) → w.read bytes ≡ Ok x → w.form bytes x
  pub again : (bytes : List ℕ) (x : X) → w.form bytes x → w.read bytes ≡ Ok x
  pub within : (bytes : List ℕ) (e : Fault) → w.read bytes ≡ Err e → e.left ≤ length bytes
  pub stops : (bytes : List ℕ) (e : Fault) → w.read bytes ≡ Err e → w.breaks bytes e
  pub broken : (bytes : List ℕ) (e : Fault) → w.breaks bytes e → w.read bytes ≡ Err e
  pub stays : (bytes : List ℕ) (e : Fault) (more : List ℕ) → (e.rule ≡ rules.Short → ⊥) → w.breaks bytes e → w.breaks (bytes ++ more) (moved e more)

-- ---- steps

pub bind_ok : {A B : Type 0} (r : Result A Fault) (f : A → Result B Fault) (y : B) → and_then r f ≡ Ok y → (x : A) × (r ≡ Ok x) × (f x ≡ Ok y)
bind_ok (Ok x) f y e = (x, refl, e)
bind_ok (Err d) f y e = absurd cc

pub bind_err : {A B : Type 0} (r : Result A Fault) (f : A → Result B Fault) (d : Fault) → and_then r f ≡ Err d → (r ≡ Err d) ⊎ ((x : A) × (r ≡ Ok x) × (f x ≡ Err d))
bind_err (Ok x) f d e = inr (x, refl, e)
bind_err (Err c) f d e = inl (let h : c ≡ d = cc in ap (λ (t : Fault). Err t) h)

pub guard_ok : {A : Type 0} (b : Bool) (d : Fault) (x y : A) → cond b (Err d) (Ok x) ≡ Ok y → (b ≡ false) × (x ≡ y)
guard_ok true d x y e = absurd cc
guard_ok false d x y e = (refl, cc)

pub guard_err : {A : Type 0} (b : Bool) (d e : Fault) (r : Result A Fault) → cond b (Err d) r ≡ Err e → ((b ≡ true) × (e ≡ d)) ⊎ ((b ≡ false) × (r ≡ Err e))
guard_err true d e r h = inl (refl, cc)
guard_err false d e r h = inr (refl, h)

pub test_ok : {A : Type 0} (b : Bool) (d : Fault) (x y : A) → cond b (Ok x) (Err d) ≡ Ok y → (b ≡ true) × (x ≡ y)
test_ok true d x y e = (refl, cc)
test_ok false d x y e = absurd cc

pub test_err : {A : Type 0} (b : Bool) (d e : Fault) (x : A) → cond b (Ok x) (Err d) ≡ Err e → (b ≡ false) × (e ≡ d)
test_err true d e x h = absurd cc
test_err false d e x h = (refl, cc)

pub refused : {A : Type 0} (b : Bool) (x : A) (r : Result A Fault) (e : Fault) → cond b (Ok x) r ≡ Err e → (b ≡ false) × (r ≡ Err e)
refused true x r e h = absurd cc
refused false x r e h = (refl, h)

abbrev done : {A : Type 0} → A → Result A Fault
done x = Ok x

pub ok_is : {A : Type 0} (x y : A) → done x ≡ done y → x ≡ y
ok_is x y e = cc

-- the left of a fault
abbrev pub left_is : {d e : Fault} → d ≡ e → d.left ≡ e.left
left_is h = ap (λ (t : Fault). t.left) h

-- the rule of a fault
abbrev pub rule_is : {d e : Fault} → d ≡ e → d.rule ≡ e.rule
rule_is h = ap (λ (t : Fault). t.rule) h

-- a fault where the bytes begin is one where they begin when more stand behind
pub begins_still : (rule : Rule) (bytes : List ℕ) (e : Fault) (more : List ℕ) → e ≡ fault_at rule bytes → moved e more ≡ fault_at rule (bytes ++ more)
begins_still rule bytes e more h = rw (h, length-append bytes more) refl

-- bytes in two parts, and more behind them
pub more_behind : (bytes front back more : List ℕ) → bytes ≡ front ++ back → bytes ++ more ≡ front ++ (back ++ more)
more_behind bytes front back more parts = ap (λ (t : List ℕ). t ++ more) parts ∙ append_assoc front back more

-- ---- then

module _ {A B : Type 0} (f : Format A) (lf : Law f) (next : A × List ℕ → Result B Fault) (G : A → List ℕ → Type 0) (bytes : List ℕ) (e : Fault) where
  -- what reading a part and going on stops at
  pub bind_stops : ((x : A) (back : List ℕ) → next (x, back) ≡ Err e → G x back) → and_then (f.read bytes) next ≡ Err e → f.breaks bytes e ⊎ Behind f.form G bytes
  bind_stops second h =
      elim (bind_err (f.read bytes) next e h) [
        | inl first ↦ inl (lf.stops bytes e first)
        | inr p ↦
            let one = lf.found bytes p.0.0 p.0.1 p.1 in
            inr (record { value = p.0.0; front = one.front; back = p.0.1; parts = one.parts; first = one.formed; second = second p.0.0 p.0.1 p.2 })
      ]

  pub bind_broken : ((x : A) (back : List ℕ) → G x back → next (x, back) ≡ Err e) → f.breaks bytes e ⊎ Behind f.form G bytes → and_then (f.read bytes) next ≡ Err e
  bind_broken second h =
      elim h [
        | inl first ↦ rw (lf.broken bytes e first) refl
        | inr b ↦
            let one : f.read bytes ≡ Ok (b.value, b.back) = ap f.read b.parts ∙ lf.again b.front b.value b.back b.first in
            rw one (second b.value b.back b.second)
      ]

-- what is said of the bytes behind a part goes on being said
pub behind_stays : {A : Type 0} (F : List ℕ → A → Type 0) (G H : A → List ℕ → Type 0) (bytes more : List ℕ) → ((x : A) (back : List ℕ) → G x back → H x (back ++ more)) → Behind F G bytes → Behind F H (bytes ++ more)
behind_stays F G H bytes more second b =
    record { value = b.value; front = b.front; back = b.back ++ more; parts = more_behind bytes b.front b.back more b.parts; first = b.first; second = second b.value b.back b.second }

-- a break in a part, or behind it, stays
pub bind_stays : {A : Type 0} (f : Format A) → Law f → (G H : A → List ℕ → Type 0) (bytes : List ℕ) (e : Fault) (more : List ℕ) → (e.rule ≡ rules.Short → ⊥)
    → ((x : A) (back : List ℕ) → G x back → H x (back ++ more)) → f.breaks bytes e ⊎ Behind f.form G bytes → f.breaks (bytes ++ more) (moved e more) ⊎ Behind f.form H (bytes ++ more)
bind_stays f lf G H bytes e more other second (inl first) = inl (lf.stays bytes e more other first)
bind_stays f lf G H bytes e more other second (inr b) = inr (behind_stays f.form G H bytes more second b)

pub bind_law : {A B : Type 0} (f : Format A) (g : A → Format B) → Law f → ((a : A) → Law (g a)) → Law (f >>= g)
bind_law f g lf lg = record {
  found = λ bytes y rest e.
      let p = bind_ok (f.read bytes) (λ a. (g a.0).read a.1) (y, rest) e in
      let one = lf.found bytes p.0.0 p.0.1 p.1 in
      let two = (lg p.0.0).found p.0.1 y rest p.2 in
      record {
        front = one.front ++ two.front;
        parts = one.parts ∙ ap (λ (t : List ℕ). one.front ++ t) two.parts ∙ sym (append_assoc one.front two.front rest);
        formed = record { value = p.0.0; front = one.front; back = two.front; parts = refl; first = one.formed; second = two.formed };
      };
  again = λ front y rest h.
      let regrouped : front ++ rest ≡ h.front ++ (h.back ++ rest) = ap (λ (t : List ℕ). t ++ rest) h.parts ∙ append_assoc h.front h.back rest in
      let one : f.read (front ++ rest) ≡ Ok (h.value, h.back ++ rest) = ap f.read regrouped ∙ lf.again h.front h.value (h.back ++ rest) h.first in
      ap (λ t. and_then t (λ a. (g a.0).read a.1)) one ∙ (lg h.value).again h.back y rest h.second;
  within = λ bytes d e.
      elim (bind_err (f.read bytes) (λ a. (g a.0).read a.1) d e) [
        | inl first ↦ lf.within bytes d first
        | inr p ↦
            let one = lf.found bytes p.0.0 p.0.1 p.1 in
            let two : d.left ≤ length p.0.1 = (lg p.0.0).within p.0.1 d p.2 in
            omega (arith, ap length one.parts, length-append one.front p.0.1)
      ];
  stops = λ bytes e h. bind_stops f lf (λ a. (g a.0).read a.1) (λ a back. (g a).breaks back e) bytes e (λ a back k. (lg a).stops back e k) h;
  broken = λ bytes e h. bind_broken f lf (λ a. (g a.0).read a.1) (λ a back. (g a).breaks back e) bytes e (λ a back k. (lg a).broken back e k) h;
  stays = λ bytes e more other h. bind_stays f lf (λ a back. (g a).breaks back e) (λ a back. (g a).breaks back (moved e more)) bytes e more other (λ a back k. (lg a).stays back e more other k) h;
}

pub yield_law : {X : Type 0} (x : X) → Law (yield x)
yield_law x = record {
  found = λ bytes y rest e. let h = ok_is (x, bytes) (y, rest) e in record { front = []; parts = ap (λ p. p.1) h; formed = (refl, sym (ap (λ p. p.0) h)) };
  again = λ front y rest h. rw (h.0, h.1) refl;
  within = λ bytes d e. absurd cc;
  stops = λ bytes d e. absurd cc;
  broken = λ bytes d h. absurd h;
  stays = λ bytes d more other h. absurd h;
}

pub refuse_law : {X : Type 0} (rule : Rule) → Law (refuse {X = X} rule)
refuse_law rule = record {
  found = λ bytes y rest e. absurd cc;
  again = λ front y rest h. absurd h;
  within = λ bytes d e. let h : length bytes ≡ d.left = cc in omega arith;
  stops = λ bytes d e. cc;
  broken = λ bytes d h. rw h refl;
  stays = λ bytes d more other h. begins_still rule bytes d more h;
}

pub judge_law : {X : Type 0} (r : Result X Rule) → Law (judge r)
judge_law (Ok x) = yield_law x
judge_law (Err rule) = refuse_law rule

pub byte_law : Law byte
byte_law = record {
  found = λ bytes b rest e. elim bytes as (λ s. byte_at s ≡ Ok (b, rest) → Found byte s b rest) [
    | [] ↦ λ h. absurd cc
    | c ∷ cs ↦ λ h. let p = ok_is (c, cs) (b, rest) h in record { front = c ∷ []; parts = ap (λ (q : ℕ × List ℕ). c ∷ q.1) p; formed = ap (λ (q : ℕ × List ℕ). q.0 ∷ []) p }
  ] e;
  again = λ front b rest h. rw h refl;
  within = λ bytes d e. elim bytes as (λ s. byte_at s ≡ Err d → d.left ≤ length s) [
    | [] ↦ λ h. let k : 0 ≡ d.left = cc in omega arith
    | c ∷ cs ↦ λ h. absurd cc
  ] e;
  stops = λ bytes d e. elim bytes as (λ s. byte_at s ≡ Err d → byte.breaks s d) [
    | [] ↦ λ h. (refl, cc)
    | c ∷ cs ↦ λ h. absurd cc
  ] e;
  broken = λ bytes d h. rw (h.0, h.1) refl;
  stays = λ bytes d more other h. absurd (other (rule_is h.1));
}

chunk_short : (n : ℕ) (bytes : List ℕ) (e : Fault) → (chunk n).read bytes ≡ Err e → (length bytes < n) × (e ≡ fault_at rules.Short bytes)
chunk_short n bytes e h =
    elim (guard_err (ltb (length bytes) n) (fault_at rules.Short bytes) e (Ok (take n bytes, drop n bytes)) h) [
      | inl p ↦ (ltb-true _ _ p.0, p.1)
      | inr p ↦ let k = p.1 in absurd cc
    ]

pub chunk_law : (n : ℕ) → Law (chunk n)
chunk_law n = record {
  found = λ bytes x rest e.
      let g = guard_ok (ltb (length bytes) n) (fault_at rules.Short bytes) (take n bytes, drop n bytes) (x, rest) e in
      let long : n ≤ length bytes = ltb-false _ _ g.0 in
      let len : length (take n bytes) ≡ n = omega (arith, length-take n bytes) in
      let x-is : take n bytes ≡ x = ap (λ (p : List ℕ × List ℕ). p.0) g.1 in
      let rest-is : drop n bytes ≡ rest = ap (λ (p : List ℕ × List ℕ). p.1) g.1 in
      record { front = x; parts = rw (← x-is, ← rest-is) (sym (take-append-drop n bytes)); formed = (refl, ap length (sym x-is) ∙ len) };
  again = λ front x rest h.
      let len : length front ≡ n = ap length h.0 ∙ h.1 in
      let long : ltb (length (front ++ rest)) n ≡ false = le-ltb _ _ (omega (arith, length-append front rest)) in
      rw (long, take_at front rest n len, drop_at front rest n len) (ap (λ (t : List ℕ). Ok (t, rest)) h.0);
  within = λ bytes d e.
      let h = chunk_short n bytes d e in
      omega (arith, left_is h.1);
  stops = chunk_short n;
  broken = λ bytes d h.
      let small : ltb (length bytes) n ≡ true = lt-ltb _ _ h.0 in
      rw (small, h.1) refl;
  stays = λ bytes d more other h. absurd (other (rule_is h.1));
}

pub such_law : {X : Type 0} (rule : Rule) (test : X → Bool) (f : Format X) → Law f → Law (such rule test f)
such_law {X = X} rule test f lf = record {
  found = λ bytes x rest e.
      let p = bind_ok (f.read bytes) (λ x. cond (test x.0) (Ok x) (wrong rule bytes)) (x, rest) e in
      let g = test_ok (test p.0.0) (fault_at rule bytes) p.0 (x, rest) p.2 in
      let one = lf.found bytes p.0.0 p.0.1 p.1 in
      subst (λ (y : X × List ℕ). Found (such rule test f) bytes y.0 y.1) g.1 (record { front = one.front; parts = one.parts; formed = (one.formed, g.0) });
  again = λ front x rest h. rw (lf.again front x rest h.0, h.1) refl;
  within = λ bytes d e.
      elim (bind_err (f.read bytes) (λ x. cond (test x.0) (Ok x) (wrong rule bytes)) d e) [
        | inl first ↦ lf.within bytes d first
        | inr p ↦
            let h = test_err (test p.0.0) (fault_at rule bytes) d p.0 p.2 in
            omega (arith, left_is h.1)
      ];
  stops = λ bytes e h.
      bind_stops f lf (λ x. cond (test x.0) (Ok x) (wrong rule bytes)) (λ x back. (test x ≡ false) × (e ≡ fault_at rule bytes)) bytes e
      (λ x back k. test_err (test x) (fault_at rule bytes) e (x, back) k) h;
  broken = λ bytes e h.
      bind_broken f lf (λ x. cond (test x.0) (Ok x) (wrong rule bytes)) (λ x back. (test x ≡ false) × (e ≡ fault_at rule bytes)) bytes e
      (λ x back k. rw (k.0, k.1) refl) h;
  stays = λ bytes e more other h.
      bind_stays f lf (λ x back. (test x ≡ false) × (e ≡ fault_at rule bytes)) (λ x back. (test x ≡ false) × (moved e more ≡ fault_at rule (bytes ++ more))) bytes e more other
      (λ x back k. (k.0, begins_still rule bytes e more k.1)) h;
}

pub in_three : (bytes a b c d : List ℕ) → bytes ≡ a ++ b → b ≡ c ++ d → bytes ≡ (a ++ c) ++ d
in_three bytes a b c d e f = e ∙ ap (λ (t : List ℕ). a ++ t) f ∙ sym (append_assoc a c d)

-- ---- all of the bytes

pub some_left : (bytes : List ℕ) → eqb (length bytes) 0 ≡ false → 1 ≤ length bytes
some_left bytes e = grind arith

pub not_empty : (bytes : List ℕ) → 1 ≤ length bytes → eqb (length bytes) 0 ≡ false
not_empty bytes h = grind arith

pub exactly_law : {X : Type 0} (f : Format X) → Law f → WholeLaw (exactly f)
exactly_law {X = X} f lf = record {
  found = λ bytes x e.
      let p = bind_ok (f.read bytes) (λ x. cond (eqb (length x.1) 0) (Ok x.0) (wrong rules.Trailing x.1)) x e in
      let g = test_ok (eqb (length p.0.1) 0) (fault_at rules.Trailing p.0.1) p.0.0 x p.2 in
      let none : p.0.1 ≡ [] = nil_from_length p.0.1 (eqb-true _ _ g.0) in
      let one = lf.found bytes p.0.0 p.0.1 p.1 in
      let whole : bytes ≡ one.front = one.parts ∙ ap (λ (t : List ℕ). one.front ++ t) none ∙ append-nil one.front in
      subst (λ (t : List ℕ). f.form t x) (sym whole) (subst (λ (y : X). f.form one.front y) g.1 one.formed);
  again = λ bytes x h.
      let one : f.read bytes ≡ Ok (x, []) = ap f.read (sym (append-nil bytes)) ∙ lf.again bytes x [] h in
      rw one refl;
  within = λ bytes d e.
      elim (bind_err (f.read bytes) (λ x. cond (eqb (length x.1) 0) (Ok x.0) (wrong rules.Trailing x.1)) d e) [
        | inl first ↦ lf.within bytes d first
        | inr p ↦
            let one = lf.found bytes p.0.0 p.0.1 p.1 in
            let h = test_err (eqb (length p.0.1) 0) (fault_at rules.Trailing p.0.1) d p.0.0 p.2 in
            omega (arith, left_is h.1, ap length one.parts, length-append one.front p.0.1)
      ];
  stops = λ bytes e h.
      bind_stops f lf (λ x. cond (eqb (length x.1) 0) (Ok x.0) (wrong rules.Trailing x.1)) (λ x back. (1 ≤ length back) × (e ≡ fault_at rules.Trailing back)) bytes e
      (λ x back k. let h = test_err (eqb (length back) 0) (fault_at rules.Trailing back) e x k in (some_left back h.0, h.1)) h;
  broken = λ bytes e h.
      bind_broken f lf (λ x. cond (eqb (length x.1) 0) (Ok x.0) (wrong rules.Trailing x.1)) (λ x back. (1 ≤ length back) × (e ≡ fault_at rules.Trailing back)) bytes e
      (λ x back k. rw (not_empty back k.0, k.1) refl) h;
  stays = λ bytes e more other h.
      bind_stays f lf (λ x back. (1 ≤ length back) × (e ≡ fault_at rules.Trailing back)) (λ x back. (1 ≤ length back) × (moved e more ≡ fault_at rules.Trailing back)) bytes e more other
      (λ x back k. (omega (arith, k.0, length-append back more), begins_still rules.Trailing back e more k.1)) h;
}

pub begins_law : {X : Type 0} (f : Format X) → Law f → WholeLaw (begins f)
begins_law {X = X} f lf = record {
  found = λ bytes x e.
      let p = bind_ok (f.read bytes) (λ x. Ok x.0) x e in
      let one = lf.found bytes p.0.0 p.0.1 p.1 in
      record { value = p.0.0; front = one.front; back = p.0.1; parts = one.parts; first = one.formed; second = sym (ok_is p.0.0 x p.2) };
  again = λ bytes x h.
      let one : f.read bytes ≡ Ok (h.value, h.back) = ap f.read h.parts ∙ lf.again h.front h.value h.back h.first in
      rw (one, h.second) refl;
  within = λ bytes d e.
      elim (bind_err (f.read bytes) (λ x. Ok x.0) d e) [
        | inl first ↦ lf.within bytes d first
        | inr p ↦ let k = p.2 in absurd cc
      ];
  stops = λ bytes d e.
      elim (bind_err (f.read bytes) (λ x. Ok x.0) d e) [
        | inl first ↦ lf.stops bytes d first
        | inr p ↦ let k = p.2 in absurd cc
      ];
  broken = λ bytes d h. rw (lf.broken bytes d h) refl;
  stays = lf.stays;
}

pub everything_law : WholeLaw everything
everything_law = record {
  found = λ bytes x e. sym (ok_is bytes x e);
  again = λ bytes x h. rw h refl;
  within = λ bytes d e. absurd cc;
  stops = λ bytes d e. absurd cc;
  broken = λ bytes d h. absurd h;
  stays = λ bytes d more other h. absurd h;
}

pub keeping_law : {X Y : Type 0} (w : Whole X) (make : X → List ℕ → Y) → WholeLaw w → WholeLaw (keeping w make)
keeping_law {X = X} {Y = Y} w make lw = record {
  found = λ bytes y e.
      let p = bind_ok (w.read bytes) (λ x. Ok (make x bytes)) y e in
      record { value = p.0; formed = lw.found bytes p.0 p.1; made = sym (ok_is (make p.0 bytes) y p.2) };
  again = λ bytes y h. rw (lw.again bytes h.value h.formed, h.made) refl;
  within = λ bytes d e.
      elim (bind_err (w.read bytes) (λ x. Ok (make x bytes)) d e) [
        | inl first ↦ lw.within bytes d first
        | inr p ↦ let k = p.2 in absurd cc
      ];
  stops = λ bytes d e.
      elim (bind_err (w.read bytes) (λ x. Ok (make x bytes)) d e) [
        | inl first ↦ lw.stops bytes d first
        | inr p ↦ let k = p.2 in absurd cc
      ];
  broken = λ bytes d h. rw (lw.broken bytes d h) refl;
  stays = lw.stays;
}

beyond_ok : {X : Type 0} (k : ℕ) (r : Result X Fault) (x : X) → beyond k r ≡ Ok x → r ≡ Ok x
beyond_ok k (Ok y) x e = e
beyond_ok k (Err f) x e = absurd cc

beyond_err : {X : Type 0} (k : ℕ) (r : Result X Fault) (d : Fault) → beyond k r ≡ Err d → (f : Fault) × (r ≡ Err f) × (d ≡ outward k f)
beyond_err k (Ok y) d e = absurd cc
beyond_err k (Err f) d e = (f, refl, cc)

-- what is broken inside stays, whatever its rule
pub inside_stays : (B : List ℕ → Fault → Type 0) (n : ℕ) (bytes : List ℕ) (e : Fault) (more : List ℕ) → BreaksInside B n bytes e → BreaksInside B n (bytes ++ more) (moved e more)
inside_stays B n bytes e more h =
    let further : length h.after + length more ≡ length (h.after ++ more) = sym (length-append h.after more) in
    let farther : h.inner.left + length h.after + length more ≡ h.inner.left + length (h.after ++ more) = omega (arith, further) in
    record { inside = h.inside; after = h.after ++ more; parts = more_behind bytes h.inside h.after more h.parts; size = h.size; inner = h.inner; broken = h.broken; place = rw (h.place, farther) refl }

-- where reading so many bytes stops: there are fewer, or within them
sized_stops : {X : Type 0} (w : Whole X) → WholeLaw w → (n : ℕ) (bytes : List ℕ) (e : Fault) → (sized w n).read bytes ≡ Err e → (sized w n).breaks bytes e
sized_stops {X = X} w lw n bytes e h =
    let after = drop n bytes in
    elim (guard_err (ltb (length bytes) n) (fault_at rules.Short bytes) e (and_then {B = X × List ℕ} (beyond (length after) (w.read (take n bytes))) (λ x. Ok (x, after))) h) [
      | inl p ↦ inl (ltb-true _ _ p.0, p.1)
      | inr p ↦
          elim (bind_err (beyond (length after) (w.read (take n bytes))) (λ x. Ok (x, after)) e p.1) [
            | inl first ↦
                let long : n ≤ length bytes = ltb-false _ _ p.0 in
                let q = beyond_err (length after) (w.read (take n bytes)) e first in
                inr (record {
                  inside = take n bytes;
                  after = after;
                  parts = sym (take-append-drop n bytes);
                  size = omega (arith, length-take n bytes);
                  inner = q.0;
                  broken = lw.stops (take n bytes) q.0 q.1;
                  place = q.2;
                })
            | inr q ↦ let k = q.2 in absurd cc
          ]
    ]

sized_broken : {X : Type 0} (w : Whole X) → WholeLaw w → (n : ℕ) (bytes : List ℕ) (e : Fault) → (sized w n).breaks bytes e → (sized w n).read bytes ≡ Err e
sized_broken w lw n bytes e (inl h) =
    let small : ltb (length bytes) n ≡ true = lt-ltb _ _ h.0 in
    rw (small, h.1) refl
sized_broken w lw n bytes e (inr h) =
    let long : ltb (length (h.inside ++ h.after)) n ≡ false = le-ltb _ _ (omega (arith, h.size, length-append h.inside h.after)) in
    rw (h.parts, long, take_at h.inside h.after n h.size, drop_at h.inside h.after n h.size, lw.broken h.inside h.inner h.broken, h.place) refl

sized_stays : {X : Type 0} (w : Whole X) (n : ℕ) (bytes : List ℕ) (e : Fault) (more : List ℕ) → (e.rule ≡ rules.Short → ⊥) → (sized w n).breaks bytes e → (sized w n).breaks (bytes ++ more) (moved e more)
sized_stays w n bytes e more other (inl h) = absurd (other (rule_is h.1))
sized_stays w n bytes e more other (inr h) = inr (inside_stays w.breaks n bytes e more h)

pub sized_law : {X : Type 0} (w : Whole X) → WholeLaw w → (n : ℕ) → Law (sized w n)
sized_law {X = X} w lw n = record {
  found = λ bytes x rest e.
      elim (ltb (length bytes) n) as (λ b. ltb (length bytes) n ≡ b → cond b (wrong {X = X × List ℕ} rules.Short bytes) (and_then {B = X × List ℕ} (beyond (length (drop n bytes)) (w.read (take n bytes))) (λ x. Ok (x, drop n bytes))) ≡ Ok (x, rest) → Found (sized w n) bytes x rest) [
        | true ↦ λ b h. absurd cc
        | false ↦ λ b h.
            let long : n ≤ length bytes = ltb-false _ _ b in
            let p = bind_ok (beyond (length (drop n bytes)) (w.read (take n bytes))) (λ x. Ok (x, drop n bytes)) (x, rest) h in
            let one = lw.found (take n bytes) p.0 (beyond_ok (length (drop n bytes)) (w.read (take n bytes)) p.0 p.1) in
            let len : length (take n bytes) ≡ n = omega (arith, length-take n bytes) in
            subst (λ (y : X × List ℕ). Found (sized w n) bytes y.0 y.1) (ok_is (p.0, drop n bytes) (x, rest) p.2) (record { front = take n bytes; parts = sym (take-append-drop n bytes); formed = (one, len) })
      ] refl e;
  again = λ front x rest h.
      let long : ltb (length (front ++ rest)) n ≡ false = le-ltb _ _ (omega (arith, length-append front rest)) in
      rw (long, take_at front rest n h.1, drop_at front rest n h.1, lw.again front x h.0) refl;
  within = λ bytes d e.
      elim (sized_stops w lw n bytes d e) [
        | inl h ↦ omega (arith, left_is h.1)
        | inr h ↦
            let one = lw.within h.inside h.inner (lw.broken h.inside h.inner h.broken) in
            omega (arith, left_is h.place, ap length h.parts, length-append h.inside h.after)
      ];
  stops = sized_stops w lw n;
  broken = sized_broken w lw n;
  stays = sized_stays w n;
}
