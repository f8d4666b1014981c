-- Formats whose value is judged are read as they say.
use Rattle.std.proofs.Common.{◌≡◌, ℕ, ◌-◌, ◌≤◌, List, ◌++◌, length, Result, Ok, Err, refl, sym, ap, ◌∙◌, arith, inl, inr}
use Rattle.std.proofs.lemmas.List.{length-append}
use Rattle.binary_grammar.specs.declared.fault.Fault.{Fault}
use Rattle.binary_grammar.specs.declared.fault.Rule.{Rule}
use Rattle.binary_grammar.specs.Format.{Format, Whole, fault_at, and_then}
use Rattle.binary_grammar.specs.Judged.{judged_at, weigh, then_all, seen_as}
use Rattle.binary_grammar.proofs.Laws.{Law, WholeLaw, moved, bind_ok, bind_err, ok_is, left_is, begins_still, more_behind, bind_stops, bind_broken, bind_stays, keeping_law}

abbrev accepted : {B : Type 0} → B → Result B Rule
accepted x = Ok x

judged_ok : {B : Type 0} (r : Result B Rule) (bytes rest : List ℕ) (y : B) (left : List ℕ) → judged_at r bytes rest ≡ Ok (y, left) → (r ≡ Ok y) × (rest ≡ left)
judged_ok {B = B} (Ok x) bytes rest y left e =
    let p = ok_is (x, rest) (y, left) e in
    (ap (λ (q : B × List ℕ). accepted q.0) p, ap (λ (q : B × List ℕ). q.1) p)
judged_ok (Err rule) bytes rest y left e = absurd cc

judged_err : {B : Type 0} (r : Result B Rule) (bytes rest : List ℕ) (e : Fault) → judged_at r bytes rest ≡ Err e → (rule : Rule) × (r ≡ Err rule) × (e ≡ fault_at rule bytes)
judged_err (Ok x) bytes rest e h = absurd cc
judged_err (Err rule) bytes rest e h = (rule, refl, cc)

-- how many bytes a part takes
pub size_of : (bytes front rest : List ℕ) → bytes ≡ front ++ rest → length bytes - length rest ≡ length front
size_of bytes front rest parts = omega (arith, ap length parts, length-append front rest)

pub weigh_law : {A B : Type 0} (judge : ℕ → A → Result B Rule) (f : Format A) → Law f → Law (weigh judge f)
weigh_law {A = A} judge f lf = record {
  found = λ bytes y rest e.
      let p = bind_ok (f.read bytes) (λ x. judged_at (judge (length bytes - length x.1) x.0) bytes x.1) (y, rest) e in
      let one = lf.found bytes p.0.0 p.0.1 p.1 in
      let q = judged_ok (judge (length bytes - length p.0.1) p.0.0) bytes p.0.1 y rest p.2 in
      let size = size_of bytes one.front p.0.1 one.parts in
      record { front = one.front; parts = one.parts ∙ ap (λ (t : List ℕ). one.front ++ t) q.1; formed = record { value = p.0.0; formed = one.formed; judged = ap (λ (n : ℕ). judge n p.0.0) (sym size) ∙ q.0 } };
  again = λ front y rest h.
      let one : f.read (front ++ rest) ≡ Ok (h.value, rest) = lf.again front h.value rest h.formed in
      let size : length (front ++ rest) - length rest ≡ length front = size_of (front ++ rest) front rest refl in
      rw (one, size, h.judged) refl;
  within = λ bytes d e.
      elim (bind_err (f.read bytes) (λ x. judged_at (judge (length bytes - length x.1) x.0) bytes x.1) d e) [
        | inl first ↦ lf.within bytes d first
        | inr p ↦
            let q = judged_err (judge (length bytes - length p.0.1) p.0.0) bytes p.0.1 d p.2 in
            omega (arith, left_is q.2)
      ];
  stops = λ bytes e h.
      elim (bind_err (f.read bytes) (λ x. judged_at (judge (length bytes - length x.1) x.0) bytes x.1) e h) [
        | inl first ↦ inl (lf.stops bytes e first)
        | inr p ↦
            let one = lf.found bytes p.0.0 p.0.1 p.1 in
            let q = judged_err (judge (length bytes - length p.0.1) p.0.0) bytes p.0.1 e p.2 in
            let size = size_of bytes one.front p.0.1 one.parts in
            inr (record { value = p.0.0; front = one.front; back = p.0.1; parts = one.parts; first = one.formed; rule = q.0; refused = ap (λ (n : ℕ). judge n p.0.0) (sym size) ∙ q.1; place = q.2 })
      ];
  broken = λ bytes e h.
      elim h [
        | inl first ↦ rw (lf.broken bytes e first) refl
        | inr b ↦
            let one : f.read bytes ≡ Ok (b.value, b.back) = ap f.read b.parts ∙ lf.again b.front b.value b.back b.first in
            let size : length bytes - length b.back ≡ length b.front = size_of bytes b.front b.back b.parts in
            rw (one, size, b.refused, b.place) refl
      ];
  stays = λ bytes e more other h.
      elim h [
        | inl first ↦ inl (lf.stays bytes e more other first)
        | inr b ↦ inr (record { value = b.value; front = b.front; back = b.back ++ more; parts = more_behind bytes b.front b.back more b.parts; first = b.first; rule = b.rule; refused = b.refused; place = begins_still b.rule bytes e more b.place })
      ];
}

pub then_all_law : {A B : Type 0} (f : Format A) (g : A → Whole B) → Law f → ((a : A) → WholeLaw (g a)) → WholeLaw (then_all f g)
then_all_law f g lf lg = record {
  found = λ bytes y e.
      let p = bind_ok (f.read bytes) (λ a. (g a.0).read a.1) y e in
      let one = lf.found bytes p.0.0 p.0.1 p.1 in
      record { value = p.0.0; front = one.front; back = p.0.1; parts = one.parts; first = one.formed; second = (lg p.0.0).found p.0.1 y p.2 };
  again = λ bytes y h.
      let one : f.read bytes ≡ Ok (h.value, h.back) = ap f.read h.parts ∙ lf.again h.front h.value h.back h.first in
      ap (λ t. and_then t (λ a. (g a.0).read a.1)) one ∙ (lg h.value).again h.back y h.second;
  within = λ bytes d e.
      elim (bind_err (f.read bytes) (λ a. (g a.0).read a.1) d e) [
        | inl first ↦ lf.within bytes d first
        | inr p ↦
            let one = lf.found bytes p.0.0 p.0.1 p.1 in
            let two : d.left ≤ length p.0.1 = (lg p.0.0).within p.0.1 d p.2 in
            omega (arith, ap length one.parts, length-append one.front p.0.1)
      ];
  stops = λ bytes e h. bind_stops f lf (λ a. (g a.0).read a.1) (λ a back. (g a).breaks back e) bytes e (λ a back k. (lg a).stops back e k) h;
  broken = λ bytes e h. bind_broken f lf (λ a. (g a.0).read a.1) (λ a back. (g a).breaks back e) bytes e (λ a back k. (lg a).broken back e k) h;
  stays = λ bytes e more other h. bind_stays f lf (λ a back. (g a).breaks back e) (λ a back. (g a).breaks back (moved e more)) bytes e more other (λ a back k. (lg a).stays back e more other k) h;
}

pub seen_as_law : {A B : Type 0} (make : A → B) (w : Whole A) → WholeLaw w → WholeLaw (seen_as make w)
seen_as_law make w lw = keeping_law w (λ x _. make x) lw
