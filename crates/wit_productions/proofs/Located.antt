-- What is read, and where it stands.
use Rattle.std.proofs.Common.{◌≡◌, ℕ, ◌-◌, List, ◌++◌, length, take, Ok, Err, refl, sym, ap, ◌∙◌, arith, inl, inr, length-append}
use Rattle.std.proofs.lemmas.List.{take_at}
use Rattle.wit_productions.specs.declared.fault.Fault.{Fault}
use Rattle.wit_tokens.specs.Passed.wit_words-declared-source_map-Span.{Span}
use Rattle.wit_tokens.specs.Passed.wit_words-declared-token-Kind.{Kind}
use Rattle.wit_tokens.specs.Passed.wit_words-Token.{Tok}
use Rattle.wit_productions.specs.Production.{Outcome, Production, between, extent, Locates, located}
use Rattle.wit_productions.proofs.Laws.{Stuck, Law, Avoids, bind_ok, bind_err, both, ok_parts}
use Rattle.wit_productions.proofs.Choices.{Goes}

-- what was taken stands between the places, whatever stands behind it
between_taken : (taken rest : List Tok) → between (taken ++ rest) rest ≡ taken
between_taken taken rest =
    let size : length (taken ++ rest) - length rest ≡ length taken = omega (arith, length-append taken rest) in
    ap (λ (n : ℕ). take n (taken ++ rest)) size ∙ take_at taken rest (length taken) refl

both_same : {A : Type 0} (a c : A) (b d : List Tok) → a ≡ c → b ≡ d → both a b ≡ both c d
both_same a c b d e f = rw (e, f) refl

module _ {A : Type 0} (ends : List Kind) (p : Production A) (l : Law ends p) where
  abbrev with_place : List Tok → A → List Tok → Outcome (Span × A)
  with_place ts x rest = Ok ((extent (between ts rest), x), rest)

  located_found : (ts : List Tok) (x : Span × A) (rest : List Tok) → (located p).read ts ≡ Ok (x, rest) → Locates p x ts rest × (p.read ts ≡ Ok (x.1, rest))
  unfolding located
  located_found ts x rest e =
      let q = bind_ok (p.read ts) (with_place ts) (x, rest) e in
      let w = ok_parts (extent (between ts q.0.1), q.0.0) x q.0.1 rest q.2 in
      let value : q.0.0 ≡ x.1 = ap (λ (v : Span × A). v.1) w.0 in
      let same : p.read ts ≡ Ok (x.1, rest) = q.1 ∙ both_same q.0.0 x.1 q.0.1 rest value w.1 in
      let place : x.0 ≡ extent (between ts rest) = sym (ap (λ (v : Span × A). v.0) w.0) ∙ ap (λ (r : List Tok). extent (between ts r)) w.1 in
      (record { place = place; item = l.found ts x.1 rest same }, same)

  located_again : (ts : List Tok) (x : Span × A) (rest : List Tok) → p.read ts ≡ Ok (x.1, rest) → x.0 ≡ extent (between ts rest) → (located p).read ts ≡ Ok (x, rest)
  unfolding located
  located_again ts x rest e d = rw (e, ← d) refl

  located_stuck : (ts : List Tok) (e : Fault) → (located p).read ts ≡ Err e → Stuck (located p).read ts e
  unfolding located
  located_stuck ts e h = elim (bind_err (p.read ts) (with_place ts) e h) [
    | inl first ↦
        let s = l.stuck ts e first in
        record { place = s.place; left = s.left; moves = record { taken = s.moves.taken; parts = s.moves.parts; ever = λ next same. rw (s.moves.ever next same) refl } }
    | inr q ↦ absurd (let bad = q.2 in cc)
  ]

  place_stays : (taken rest next ts : List Tok) → ts ≡ taken ++ rest → extent (between ts rest) ≡ extent (between (taken ++ next) next)
  place_stays taken rest next ts parts =
      ap (λ (us : List Tok). extent (between us rest)) parts ∙ ap extent (between_taken taken rest ∙ sym (between_taken taken next))

  pub located_law : Law ends (located p)
  unfolding located
  located_law = record {
    found = λ ts x rest e. (located_found ts x rest e).0;
    again = λ ts x rest h clear. located_again ts x rest (l.again ts x.1 rest h.item clear) h.place;
    suffix = λ ts x rest h. l.suffix ts x.1 rest h.item;
    steady = λ ts x rest e.
        let f = located_found ts x rest e in
        let m = l.steady ts x.1 rest f.1 in
        record { taken = m.taken; parts = m.parts; ever = λ next same. located_again (m.taken ++ next) x next (m.ever next same) (f.0.place ∙ place_stays m.taken rest next ts m.parts) };
    stuck = located_stuck;
  }

pub located_goes : {A : Type 0} (ends : List Kind) (p : Production A) → Goes ends p → Goes ends (located p)
unfolding located
located_goes ends p g = record { shorter = λ ts x rest h. g.shorter ts x.1 rest h.item }

pub located_avoids : {A : Type 0} (ends begins : List Kind) (p : Production A) → Avoids ends begins p → Avoids ends begins (located p)
unfolding located
located_avoids ends begins p av = record { clear = λ ts x rest h c. av.clear ts x.1 rest h.item c }
