-- What is read with the docs in front of it.
use Rattle.std.proofs.Common.{◌≡◌, ◌<◌, List, [], ◌∷◌, ◌++◌, length, Ok, Err, refl, sym, ap, ◌∙◌, arith, inl, inr}
use Rattle.wit_productions.specs.declared.fault.Fault.{Fault}
use Rattle.wit_tokens.specs.Passed.wit_words-declared-token-Kind.{Kind}
use Rattle.wit_tokens.specs.Passed.wit_words-Slice.{Slice}
use Rattle.wit_tokens.specs.Passed.wit_words-Token.{Tok}
use Rattle.wit_productions.specs.Production.{Outcome, Production, docs_at, Documents, documented}
use Rattle.wit_productions.proofs.Laws.{Stuck, Law, Avoids, bind_ok, bind_err, both, ok_parts}
use Rattle.wit_productions.proofs.Choices.{Goes}

-- docs stand in front of a token, so they stay where more than none are taken
docs_stay : (taken rest next ts : List Tok) → ts ≡ taken ++ rest → length rest < length ts → docs_at (taken ++ next) ≡ docs_at ts
docs_stay [] rest next ts e l = absurd (let k : length ts ≡ length rest = ap length e in omega (arith, k))
docs_stay (t ∷ taken) rest next ts e l = rw e refl

both_same : {A : Type 0} (a c : A) (b d : List Tok) → a ≡ c → b ≡ d → both a b ≡ both c d
both_same a c b d e f = rw (e, f) refl

module _ {A : Type 0} (ends : List Kind) (p : Production A) (l : Law ends p) (g : Goes ends p) where
  abbrev with_docs : List Tok → A → List Tok → Outcome (List Slice × A)
  with_docs ts x rest = Ok ((docs_at ts, x), rest)

  documented_found : (ts : List Tok) (x : List Slice × A) (rest : List Tok) → (documented p).read ts ≡ Ok (x, rest) → Documents p x ts rest × (p.read ts ≡ Ok (x.1, rest))
  unfolding documented
  documented_found ts x rest e =
      let q = bind_ok (p.read ts) (with_docs ts) (x, rest) e in
      let w = ok_parts (docs_at ts, q.0.0) x q.0.1 rest q.2 in
      let value : q.0.0 ≡ x.1 = ap (λ (v : List Slice × A). v.1) w.0 in
      let same : p.read ts ≡ Ok (x.1, rest) = q.1 ∙ both_same q.0.0 x.1 q.0.1 rest value w.1 in
      (record { docs = sym (ap (λ (v : List Slice × A). v.0) w.0); item = l.found ts x.1 rest same }, same)

  documented_again : (ts : List Tok) (x : List Slice × A) (rest : List Tok) → p.read ts ≡ Ok (x.1, rest) → x.0 ≡ docs_at ts → (documented p).read ts ≡ Ok (x, rest)
  unfolding documented
  documented_again ts x rest e d = rw (e, ← d) refl

  documented_stuck : (ts : List Tok) (e : Fault) → (documented p).read ts ≡ Err e → Stuck (documented p).read ts e
  unfolding documented
  documented_stuck ts e h = elim (bind_err (p.read ts) (with_docs ts) e h) [
    | inl first ↦
        let s = l.stuck ts e first in
        record { place = s.place; left = s.left; moves = record { taken = s.moves.taken; parts = s.moves.parts; ever = λ next same. rw (s.moves.ever next same) refl } }
    | inr q ↦ absurd (let bad = q.2 in cc)
  ]

  pub documented_law : Law ends (documented p)
  unfolding documented
  documented_law = record {
    found = λ ts x rest e. (documented_found ts x rest e).0;
    again = λ ts x rest h clear. documented_again ts x rest (l.again ts x.1 rest h.item clear) h.docs;
    suffix = λ ts x rest h. l.suffix ts x.1 rest h.item;
    steady = λ ts x rest e.
        let f = documented_found ts x rest e in
        let m = l.steady ts x.1 rest f.1 in
        record { taken = m.taken; parts = m.parts; ever = λ next same. documented_again (m.taken ++ next) x next (m.ever next same) (f.0.docs ∙ sym (docs_stay m.taken rest next ts m.parts (g.shorter ts x.1 rest f.0.item))) };
    stuck = documented_stuck;
  }

pub documented_goes : {A : Type 0} (ends : List Kind) (p : Production A) → Goes ends p → Goes ends (documented p)
unfolding documented
documented_goes ends p g = record { shorter = λ ts x rest h. g.shorter ts x.1 rest h.item }

pub documented_avoids : {A : Type 0} (ends begins : List Kind) (p : Production A) → Avoids ends begins p → Avoids ends begins (documented p)
unfolding documented
documented_avoids ends begins p av = record { clear = λ ts x rest h c. av.clear ts x.1 rest h.item c }
