use Rattle.std.proofs.Common.{◌≡◌, ℕ, List, Some, sym, subst, ◌∙◌, arith}
use Rattle.std.specs.Prelude.{bytes_eq, slice_get}
use Rattle.wit_words.specs.declared.source_map.Span.{Span}
use Rattle.wit_rules.specs.Repeats.{IsRepeat, IsFirstRepeat, AreDistinct}
use Rattle.wit_rules.proofs.Places.{read_at}
use Rattle.wit_sides.specs.Sides as spec
use Rattle.wit_sides.proofs.Entries.{within_spans}
use Rattle.wit_sides.proofs.sides.check_names.Goals as goal

pub returns-in-None-clause-ok : goal.returns-in-None-clause-ok
returns-in-None-clause-ok c = λ at b. (
    let keys : c.as_slice.result.now ≡ spec.name_keys (spec.plain_names c.args.entries.now) = c.as_slice.ensures.value ∙ c.in_ok-keys.ensures in
    let none : AreDistinct bytes_eq c.as_slice.result.now = rw c.in-None.is at c.in_ok-first_repeat.ensures in
    none b.place (subst (λ (ks : List (List ℕ)). IsRepeat bytes_eq ks b.place) (sym keys) b.again))

pub index-requires : goal.index-requires
index-requires c =
    let keys : c.as_slice.result.now ≡ spec.name_keys (spec.plain_names c.args.entries.now) = c.as_slice.ensures.value ∙ c.in_ok-keys.ensures in
    let first : IsFirstRepeat bytes_eq c.as_slice.result.now c.in-Some.place = rw c.in-Some.is at c.in_ok-first_repeat.ensures in
    within_spans c.args.entries.now c.in_ok-spans-in-Some.spans c.in-Some.place c.in_ok-spans-in-Some.ensures (subst (λ (ks : List (List ℕ)). IsRepeat bytes_eq ks c.in-Some.place) keys first.repeat)

pub returns-clause-cause : goal.returns-clause-cause
returns-clause-cause c =
    let keys : c.as_slice.result.now ≡ spec.name_keys (spec.plain_names c.args.entries.now) = c.as_slice.ensures.value ∙ c.in_ok-keys.ensures in
    let first : IsFirstRepeat bytes_eq c.as_slice.result.now c.in-Some.place = rw c.in-Some.is at c.in_ok-first_repeat.ensures in
    let again = subst (λ (ks : List (List ℕ)). IsRepeat bytes_eq ks c.in-Some.place) keys first.repeat in
    let spans = c.in_ok-spans-in-Some.spans in
    let within = within_spans c.args.entries.now spans c.in-Some.place c.in_ok-spans-in-Some.ensures again in
    let size = spans.ok.0 in
    record {
      place = c.in-Some.place;
      again = again;
      there = subst (λ (ss : List Span). slice_get ss c.in-Some.place ≡ Some c.index.result.now) c.in_ok-spans-in-Some.ensures (read_at spans.items c.in-Some.place c.index.result.now (omega (arith, within, size)) c.index.ensures);
    }
