use Rattle.std.proofs.Common.{◌≡◌, ℕ, true, false, Some, String, sym, subst, ap, ◌∙◌, refl, arith, below_more}
use Rattle.std.proofs.lemmas.Option.{same_Some, slice_get_within}
use Rattle.std.specs.Prelude.{slice_get}
use Rattle.std.specs.declared.alloc.Global.{Global}
use Rattle.wit_features.specs.Passed.wit_types-declared-function-Function.{Function}
use Rattle.wit_moves.specs.Moved.{is_signature_placed}
use Rattle.wit_moves.specs.Interfaces.{function_stays}
use Rattle.wit_moves.proofs.interfaces.check_functions.Goals as goal
use Rattle.wit_moves.proofs.interfaces.check_functions.Goals.{else-stays-via-then-stays+else-not-has_signature, else-stays-via-else-stays}

pub returns-then-not-has_signature-clause-cause : goal.returns-then-not-has_signature-clause-cause
returns-then-not-has_signature-clause-cause c =
    let f = c.function_at-function.result.now in
    record {
      place = c.loop-place.place;
      one = (c.function_at-function.ensures.0, f);
      there = c.function_at-function.ensures.1;
      stays = sym c.stays.ensures ∙ c.if-stays.true;
      unplaced = sym c.has_signature.ensures ∙ (let t = c.if-not-has_signature.true in cc);
      stands = refl;
    }

pub returns-clause-ok : goal.returns-clause-ok
returns-clause-ok c = λ at b. (
    let within = slice_get_within c.args.functions.now.entries b.place b.one b.there in
    let past = c.loop-place-test.false in
    let size = c.len-place-end.ensures.len in
    c.loop-place.invariant b.place b.one (omega (arith, within, past, size)) b.there b.stays b.unplaced)

pub loop-place-preserved : goal.loop-place-preserved
loop-place-preserved c k e less at stays unplaced =
    let f = c.function_at-function.result.now in
    below_more (λ (n : ℕ). (d : String Global × Function) → slice_get c.args.functions.now.entries n ≡ Some d → function_stays c.args.features.now c.args.places.now d.1 ≡ true → is_signature_placed c.args.places.now d.1.params.items d.1.result ≡ false → ⊥) c.loop-place.place
    (λ n l d a s u. c.loop-place.invariant n d l a s u)
    (λ d a s u. (
    let same : d.1 ≡ f = ap (λ (z : String Global × Function). z.1) (same_Some d (c.function_at-function.ensures.0, f) (sym a ∙ c.function_at-function.ensures.1)) in
    let s2 : function_stays c.args.features.now c.args.places.now f ≡ true = subst (λ (z : Function). function_stays c.args.features.now c.args.places.now z ≡ true) same s in
    let u2 : is_signature_placed c.args.places.now f.params.items f.result ≡ false = subst (λ (z : Function). is_signature_placed c.args.places.now z.params.items z.result ≡ false) same u in
    (elim c.else-stays.branch as (λ _. ⊥) [
      | else-stays-via-then-stays+else-not-has_signature w ↦ (let has : w.has_signature.result ≡ true = w.if-not-has_signature.false in let is = w.has_signature.ensures in cc)
      | else-stays-via-else-stays w ↦ (let none = w.if-stays.false in let is = c.stays.ensures in cc)
    ]))) k less e at stays unplaced
