-- A production whose reading finds what its front says, and nothing else.
use Rattle.std.proofs.Common.{◌≡◌, ◌⊎◌, ℕ, Bool, true, false, cond, List, [], ◌∷◌, ◌++◌, length, Option, Some, None, Result, Ok, Err, refl, sym, ap, subst, ◌∙◌, inl, inr, append_assoc}
use Rattle.std.proofs.lemmas.Bool.{cases_Bool}
use Rattle.wit_productions.specs.declared.fault.Fault.{Fault}
use Rattle.wit_tokens.specs.Passed.wit_words-declared-fault-Rule.{Rule}
use Rattle.wit_tokens.specs.Passed.wit_words-declared-fault-Rule-TheVariants as rule
use Rattle.wit_tokens.specs.Passed.wit_words-declared-token-Kind.{Kind}
use Rattle.wit_tokens.specs.Passed.wit_words-declared-source_map-Span.{Span}
use Rattle.wit_tokens.specs.Passed.wit_words-Slice.{Slice}
use Rattle.wit_tokens.specs.Passed.wit_words-Token.{What, Tok, plain, number, version, ident, explicit}
use Rattle.wit_productions.specs.Production.{Outcome, Production, wrong, and_then, ◌>>=◌, yield, refuse, is_kind, sees, after, Stands, sign, judged, one_at, one, spanned, slice_at, slice, branch, Next, none, goes}
use Rattle.wit_productions.specs.Place.{ahead}
use Rattle.wit_tokens.proofs.Passed.wit_words-SameKinds.{same_is, same_self}

-- ---- what stands next

-- none of these kinds stands next
abbrev pub Clear : List Kind → List Tok → Type 0
Clear [] ts = Unit {0}
Clear (k ∷ ks) ts = (sees k ts ≡ false) × Clear ks ts

-- the place comes after these tokens, and what is said of it holds whatever stands behind the next token
pub record Moves (ts rest : List Tok) (P : List Tok → List Tok → Type 0) : Type 0 where
  pub taken : List Tok
  pub parts : ts ≡ taken ++ rest
  pub ever : (next : List Tok) → ahead rest ≡ ahead next → P (taken ++ next) next

-- a fault lies at a place, and is found there whatever stands behind the next token
pub record Stuck {X : Type 0} (read : List Tok → Outcome X) (ts : List Tok) (e : Fault) : Type 0 where
  pub place : List Tok
  pub left : length place ≡ e.left
  pub moves : Moves ts place (λ us next. read us ≡ Err (record { rule = e.rule; left = length next }))

pub record Suffix (ts rest : List Tok) : Type 0 where
  pub taken : List Tok
  pub parts : ts ≡ taken ++ rest

-- behind it stands none of the kinds, where what is read is to be all that could be
pub record Law {X : Type 0} (ends : List Kind) (p : Production X) : Type 0 where
  pub found : (ts : List Tok) (x : X) (rest : List Tok) → p.read ts ≡ Ok (x, rest) → p.front x ts rest
  pub again : (ts : List Tok) (x : X) (rest : List Tok) → p.front x ts rest → Clear ends rest → p.read ts ≡ Ok (x, rest)
  pub suffix : (ts : List Tok) (x : X) (rest : List Tok) → p.front x ts rest → Suffix ts rest
  pub steady : (ts : List Tok) (x : X) (rest : List Tok) → p.read ts ≡ Ok (x, rest) → Moves ts rest (λ us next. p.read us ≡ Ok (x, next))
  pub stuck : (ts : List Tok) (e : Fault) → p.read ts ≡ Err e → Stuck p.read ts e

-- it doesn't begin with these kinds, if what stands behind it doesn't with those
pub record Avoids {X : Type 0} (ends begins : List Kind) (p : Production X) : Type 0 where
  pub clear : (ts : List Tok) (x : X) (rest : List Tok) → p.front x ts rest → Clear ends rest → Clear begins ts

-- ---- steps

abbrev given : Slice → Result Slice Rule
given s = Ok s

abbrev done : {A : Type 0} → A → Result A Fault
done p = Ok p

pub ok_is : {A : Type 0} (p q : A) → done p ≡ done q → p ≡ q
ok_is p q e = cc

abbrev pub both : {A : Type 0} → A → List Tok → Outcome A
both a ts = Ok (a, ts)

pub ok_parts : {A : Type 0} (a c : A) (b d : List Tok) → both a b ≡ both c d → (a ≡ c) × (b ≡ d)
ok_parts {A = A} a c b d e = let q = ok_is {A = A × List Tok} (a, b) (c, d) e in (ap (λ (p : A × List Tok). p.0) q, ap (λ (p : A × List Tok). p.1) q)

abbrev fails : {A : Type 0} → Fault → Outcome A
fails e = Err e

pub err_is : {A : Type 0} (d e : Fault) → fails {A = A} d ≡ fails e → d ≡ e
err_is d e h = cc

pub bind_ok : {A B : Type 0} (o : Outcome A) (f : A → List Tok → Outcome B) (q : B × List Tok) → and_then o f ≡ Ok q → (p : A × List Tok) × (o ≡ Ok p) × (f p.0 p.1 ≡ Ok q)
bind_ok (Ok p) f q e = (p, refl, e)
bind_ok (Err d) f q e = absurd cc

pub bind_err : {A B : Type 0} (o : Outcome A) (f : A → List Tok → Outcome B) (e : Fault) → and_then o f ≡ Err e → (o ≡ Err e) ⊎ ((p : A × List Tok) × (o ≡ Ok p) × (f p.0 p.1 ≡ Err e))
bind_err (Ok p) f e h = inr (p, refl, h)
bind_err (Err d) f e h = inl (let k : d ≡ e = cc in ap (λ (t : Fault). Err t) k)

pub ahead_more : (f rest next : List Tok) → ahead rest ≡ ahead next → ahead (f ++ rest) ≡ ahead (f ++ next)
ahead_more [] rest next e = e
ahead_more (t ∷ f) rest next e = refl

seen_in : Kind → Option What → Bool
seen_in k None = false
seen_in k (Some w) = is_kind k w

sees_in : (k : Kind) (ts : List Tok) → sees k ts ≡ seen_in k (ahead ts)
unfolding sees seen_in
sees_in k [] = refl
sees_in k (t ∷ ts) = refl

pub kind_is : (k : Kind) (w : What) → is_kind k w ≡ true → w ≡ plain k
kind_is k (plain j) e = ap (λ i. plain i) (same_is j k e)
kind_is k (number s) e = absurd cc
kind_is k (version s) e = absurd cc
kind_is k (ident s) e = absurd cc
kind_is k (explicit s) e = absurd cc

pub sees_ahead : (k : Kind) (ts us : List Tok) → ahead ts ≡ ahead us → sees k ts ≡ sees k us
sees_ahead k ts us e = sees_in k ts ∙ ap (seen_in k) e ∙ sym (sees_in k us)

pub sees_is : (k : Kind) (ts : List Tok) → sees k ts ≡ true → Stands k ts (after k ts)
unfolding sees after
sees_is k [] e = absurd cc
sees_is k (t ∷ ts) e = record { token = t; first = rw e refl; is = kind_is k t.what e }

kind_self : (k : Kind) (w : What) → w ≡ plain k → is_kind k w ≡ true
kind_self k w e = rw e (same_self k)

pub sees_sign : (k : Kind) (t : Tok) (ts : List Tok) → t.what ≡ plain k → sees k (t ∷ ts) ≡ true
unfolding sees
sees_sign k t ts e = kind_self k t.what e

pub after_sign : (k : Kind) (t : Tok) (ts : List Tok) → t.what ≡ plain k → after k (t ∷ ts) ≡ ts
unfolding after
after_sign k t ts e = rw (kind_self k t.what e) refl

pub after_unseen : (k : Kind) (ts : List Tok) → sees k ts ≡ false → after k ts ≡ ts
unfolding sees after
after_unseen k [] e = refl
after_unseen k (t ∷ ts) e = rw e refl

-- ---- then

abbrev Reader : Type 0 → Type 0
Reader A = List Tok → Outcome A

then_moves : {A B : Type 0} (p : Reader A) (q : A → Reader B) (P : Outcome B → List Tok → Type 0) (ts mid rest : List Tok) (a : A)
    → Moves ts mid (λ us next. p us ≡ Ok (a, next)) → Moves mid rest (λ us next. P (q a us) next)
    → Moves ts rest (λ us next. P (and_then (p us) q) next)
then_moves p q P ts mid rest a one two = record {
  taken = one.taken ++ two.taken;
  parts = one.parts ∙ ap (λ (t : List Tok). one.taken ++ t) two.parts ∙ sym (append_assoc one.taken two.taken rest);
  ever = λ next same.
      let alike : ahead mid ≡ ahead (two.taken ++ next) = ap ahead two.parts ∙ ahead_more two.taken rest next same in
      let first : p ((one.taken ++ two.taken) ++ next) ≡ Ok (a, two.taken ++ next) = ap p (append_assoc one.taken two.taken next) ∙ one.ever (two.taken ++ next) alike in
      rw first (two.ever next same);
}

pub bind_open : {A B : Type 0} (ends inner : List Kind) (f : Production A) (g : A → Production B) → Law inner f → ((a : A) → Law ends (g a)) → ((a : A) → Avoids ends inner (g a)) → Law ends (f >>= g)
bind_open ends inner f g lf lg av = record {
  found = λ ts y rest e.
      let p = bind_ok (f.read ts) (λ a. (g a).read) (y, rest) e in
      record { value = p.0.0; mid = p.0.1; first = lf.found ts p.0.0 p.0.1 p.1; second = (lg p.0.0).found p.0.1 y rest p.2 };
  again = λ ts y rest h clear.
      let one = lf.again ts h.value h.mid h.first ((av h.value).clear h.mid y rest h.second clear) in
      ap (λ t. and_then t (λ a. (g a).read)) one ∙ (lg h.value).again h.mid y rest h.second clear;
  suffix = λ ts y rest h.
      let one = lf.suffix ts h.value h.mid h.first in
      let two = (lg h.value).suffix h.mid y rest h.second in
      record { taken = one.taken ++ two.taken; parts = one.parts ∙ ap (λ (t : List Tok). one.taken ++ t) two.parts ∙ sym (append_assoc one.taken two.taken rest) };
  steady = λ ts y rest e.
      let p = bind_ok (f.read ts) (λ a. (g a).read) (y, rest) e in
      then_moves f.read (λ a. (g a).read) (λ o next. o ≡ Ok (y, next)) ts p.0.1 rest p.0.0 (lf.steady ts p.0.0 p.0.1 p.1) ((lg p.0.0).steady p.0.1 y rest p.2);
  stuck = λ ts e h.
      elim (bind_err (f.read ts) (λ a. (g a).read) e h) [
        | inl first ↦
            let s = lf.stuck ts e first in
            record { place = s.place; left = s.left; moves = record { taken = s.moves.taken; parts = s.moves.parts; ever = λ next same. rw (s.moves.ever next same) refl } }
        | inr p ↦
            let s = (lg p.0.0).stuck p.0.1 e p.2 in
            record { place = s.place; left = s.left; moves = then_moves f.read (λ a. (g a).read) (λ o next. o ≡ Err (record { rule = e.rule; left = length next })) ts p.0.1 s.place p.0.0 (lf.steady ts p.0.0 p.0.1 p.1) s.moves }
      ];
}

pub bind_law : {A B : Type 0} (ends : List Kind) (f : Production A) (g : A → Production B) → Law [] f → ((a : A) → Law ends (g a)) → Law ends (f >>= g)
bind_law ends f g lf lg = bind_open ends [] f g lf lg (λ a. record { clear = λ ts x rest h clear. tt })

-- ---- single ones

pub yield_law : {X : Type 0} (ends : List Kind) (x : X) → Law ends (yield x)
yield_law ends x = record {
  found = λ ts y rest e. let q = ok_parts x y ts rest e in (q.1, sym q.0);
  again = λ ts y rest h clear. rw (h.0, h.1) refl;
  suffix = λ ts y rest h. record { taken = []; parts = h.0 };
  steady = λ ts y rest e. let q = ok_parts x y ts rest e in record { taken = []; parts = q.1; ever = λ next same. rw (q.0) refl };
  stuck = λ ts e h. absurd cc;
}

-- a value made of what is read

pub map_law : {A B : Type 0} (ends : List Kind) (p : Production A) (f : A → B) → Law ends p → Law ends (p >>= (λ x. yield (f x)))
map_law ends p f l = bind_open ends ends p (λ x. yield (f x)) l (λ x. yield_law ends (f x)) (λ x. record { clear = λ ts y rest h c. rw (h.0) c })

pub map_avoids : {A B : Type 0} (ends begins : List Kind) (p : Production A) (f : A → B) → Avoids ends begins p → Avoids ends begins (p >>= (λ x. yield (f x)))
map_avoids ends begins p f av = record { clear = λ ts x rest h c. av.clear ts h.value h.mid h.first (rw (h.second.0) c) }

pub refuse_law : {X : Type 0} (ends : List Kind) (r : Rule) → Law ends (refuse {X = X} r)
refuse_law {X = X} ends r = record {
  found = λ ts y rest e. absurd cc;
  again = λ ts y rest h clear. absurd h;
  suffix = λ ts y rest h. absurd h;
  steady = λ ts y rest e. absurd cc;
  stuck = λ ts e h.
      let k = err_is {A = X} (record { rule = r; left = length ts }) e h in
      record { place = ts; left = ap (λ (f : Fault). f.left) k; moves = record { taken = []; parts = refl; ever = λ next same. let q : r ≡ e.rule = ap (λ (f : Fault). f.rule) k in rw q refl } };
}

sign_found : (k : Kind) (ts : List Tok) (u : Unit {0}) (rest : List Tok) → cond (sees k ts) (both tt (after k ts)) (wrong rule.Unexpected (after k ts)) ≡ Ok (u, rest) → Stands k ts rest
sign_found k ts u rest e = elim (cases_Bool (sees k ts)) [
  | inl seen ↦ let q = ok_parts tt u (after k ts) rest (rw seen at e) in subst (λ (us : List Tok). Stands k ts us) q.1 (sees_is k ts seen)
  | inr unseen ↦ absurd (let bad = rw unseen at e in cc)
]

pub sign_law : (ends : List Kind) (k : Kind) → Law ends (sign k)
unfolding sign
sign_law ends k = record {
  found = sign_found k;
  again = λ ts u rest h clear. rw (h.first, sees_sign k h.token rest h.is, after_sign k h.token rest h.is) refl;
  suffix = λ ts u rest h. record { taken = h.token ∷ []; parts = h.first };
  steady = λ ts u rest e.
      let h = sign_found k ts u rest e in
      record { taken = h.token ∷ []; parts = h.first; ever = λ next same. rw (sees_sign k h.token next h.is, after_sign k h.token next h.is) refl };
  stuck = λ ts e h. elim (cases_Bool (sees k ts)) [
    | inl seen ↦ absurd (let bad = rw seen at h in cc)
    | inr unseen ↦
        let w = err_is {A = Unit {0}} (record { rule = rule.Unexpected; left = length ts }) e (rw (unseen, after_unseen k ts unseen) at h) in
        record {
          place = ts;
          left = ap (λ (f : Fault). f.left) w;
          moves = record {
            taken = [];
            parts = refl;
            ever = λ next same.
                let unseen2 : sees k next ≡ false = sym (sees_ahead k ts next same) ∙ unseen in
                let q : rule.Unexpected ≡ e.rule = ap (λ (f : Fault). f.rule) w in
                rw (unseen2, after_unseen k next unseen2, ← q) refl;
          };
        }
  ];
}

pub judged_ok : {X : Type 0} (whole : List Tok) (r : Result X Rule) (ts : List Tok) (x : X) (rest : List Tok) → judged whole r ts ≡ Ok (x, rest) → (r ≡ Ok x) × (ts ≡ rest)
judged_ok whole (Ok y) ts x rest e = let q = ok_parts y x ts rest e in (ap (λ t. Ok t) q.0, q.1)
judged_ok whole (Err r) ts x rest e = absurd cc

pub judged_err : {X : Type 0} (whole : List Tok) (r : Result X Rule) (ts : List Tok) (e : Fault) → judged whole r ts ≡ Err e → (r ≡ Err e.rule) × (length whole ≡ e.left)
judged_err whole (Ok y) ts e h = absurd cc
judged_err {X = X} whole (Err r) ts e h = let q = err_is {A = X} (record { rule = r; left = length whole }) e h in (ap (λ (f : Fault). Err f.rule) q, ap (λ (f : Fault). f.left) q)

pub ahead_is : (t : Tok) (ts next : List Tok) → ahead (t ∷ ts) ≡ ahead next → (u : Tok) × (us : List Tok) × (next ≡ u ∷ us) × (u.what ≡ t.what)
ahead_is t ts [] e = absurd cc
ahead_is t ts (u ∷ us) e = (u, us, refl, cc)

pub ahead_none : (next : List Tok) → ahead [] ≡ ahead next → next ≡ []
ahead_none [] e = refl
ahead_none (u ∷ us) e = absurd cc

one_found : {X : Type 0} (judge : What → Result X Rule) (ts : List Tok) (x : X) (rest : List Tok) → one_at judge ts ≡ Ok (x, rest) → (one judge).front x ts rest
one_found judge [] x rest e = absurd cc
one_found judge (t ∷ ts) x rest e = let q = judged_ok (t ∷ ts) (judge t.what) ts x rest e in record { token = t; first = ap (λ (us : List Tok). t ∷ us) q.1; good = q.0 }

one_stuck : {X : Type 0} (judge : What → Result X Rule) (ts : List Tok) (e : Fault) → one_at judge ts ≡ Err e → Stuck (one_at judge) ts e
one_stuck {X = X} judge [] e h =
    let w = err_is {A = X} (record { rule = rule.Unexpected; left = 0 }) e h in
    record { place = []; left = ap (λ (f : Fault). f.left) w; moves = record { taken = []; parts = refl; ever = λ next same. let q : rule.Unexpected ≡ e.rule = ap (λ (f : Fault). f.rule) w in rw (ahead_none next same, ← q) refl } }
one_stuck judge (t ∷ ts) e h =
    let w = judged_err (t ∷ ts) (judge t.what) ts e h in
    record { place = t ∷ ts; left = w.1; moves = record { taken = []; parts = refl; ever = λ next same. let a = ahead_is t ts next same in rw (a.2, a.3, w.0) refl } }

pub one_law : {X : Type 0} (ends : List Kind) (judge : What → Result X Rule) → Law ends (one judge)
one_law ends judge = record {
  found = one_found judge;
  again = λ ts x rest h clear. rw (h.first, h.good) refl;
  suffix = λ ts x rest h. record { taken = h.token ∷ []; parts = h.first };
  steady = λ ts x rest e. let h = one_found judge ts x rest e in record { taken = h.token ∷ []; parts = h.first; ever = λ next same. rw (h.good) refl };
  stuck = one_stuck judge;
}

-- the same with the place of the token

spanned_ok : (span : Span) (r : Result (List ℕ) Rule) (s : Slice) → spanned span r ≡ Ok s → (r ≡ Ok s.text) × (s.span ≡ span)
spanned_ok span (Ok x) s e = let q = slice_is (record { text = x; span = span }) s e in (ap (λ (t : Slice). Ok t.text) q, sym (ap (λ (t : Slice). t.span) q))
  where
    slice_is : (s t : Slice) → given s ≡ given t → s ≡ t
    slice_is s t e = cc
spanned_ok span (Err r) s e = absurd cc

pub spanned_err : (span : Span) (r : Result (List ℕ) Rule) (e : Rule) → spanned span r ≡ Err e → r ≡ Err e
spanned_err span (Ok x) e h = absurd cc
spanned_err span (Err r) e h = let q : r ≡ e = cc in ap (λ (t : Rule). Err t) q

slice_found : (judge : What → Result (List ℕ) Rule) (ts : List Tok) (x : Slice) (rest : List Tok) → slice_at judge ts ≡ Ok (x, rest) → (slice judge).front x ts rest
slice_found judge [] x rest e = absurd cc
slice_found judge (t ∷ ts) x rest e =
    let q = judged_ok (t ∷ ts) (spanned t.span (judge t.what)) ts x rest e in
    let s = spanned_ok t.span (judge t.what) x q.0 in
    record { token = t; first = ap (λ (us : List Tok). t ∷ us) q.1; good = s.0; there = s.1 }

slice_read : (judge : What → Result (List ℕ) Rule) (t : Tok) (ts : List Tok) (x : Slice) → judge t.what ≡ Ok x.text → x.span ≡ t.span → slice_at judge (t ∷ ts) ≡ Ok (x, ts)
slice_read judge t ts x good there = rw (good, ← there) refl

slice_stuck : (judge : What → Result (List ℕ) Rule) (ts : List Tok) (e : Fault) → slice_at judge ts ≡ Err e → Stuck (slice_at judge) ts e
slice_stuck judge [] e h =
    let w = err_is {A = Slice} (record { rule = rule.Unexpected; left = 0 }) e h in
    record { place = []; left = ap (λ (f : Fault). f.left) w; moves = record { taken = []; parts = refl; ever = λ next same. let q : rule.Unexpected ≡ e.rule = ap (λ (f : Fault). f.rule) w in rw (ahead_none next same, ← q) refl } }
slice_stuck judge (t ∷ ts) e h =
    let w = judged_err (t ∷ ts) (spanned t.span (judge t.what)) ts e h in
    let r = spanned_err t.span (judge t.what) e.rule w.0 in
    record { place = t ∷ ts; left = w.1; moves = record { taken = []; parts = refl; ever = λ next same. let a = ahead_is t ts next same in rw (a.2, a.3, r) refl } }

pub slice_law : (ends : List Kind) (judge : What → Result (List ℕ) Rule) → Law ends (slice judge)
slice_law ends judge = record {
  found = slice_found judge;
  again = λ ts x rest h clear. rw (h.first) (slice_read judge h.token rest x h.good h.there);
  suffix = λ ts x rest h. record { taken = h.token ∷ []; parts = h.first };
  steady = λ ts x rest e. let h = slice_found judge ts x rest e in record { taken = h.token ∷ []; parts = h.first; ever = λ next same. slice_read judge h.token next x h.good h.there };
  stuck = slice_stuck judge;
}

-- ---- choices

pub branch_law : {X : Type 0} (ends : List Kind) (k : Kind) (p q : Production X) → Law ends p → Law ends q → Avoids ends (k ∷ []) q → Law ends (branch k p q)
unfolding branch
branch_law ends k p q lp lq av = record {
  found = λ ts x rest e. elim (cases_Bool (sees k ts)) [
    | inl seen ↦ record { way = inl (after k ts, sees_is k ts seen, lp.found (after k ts) x rest (rw seen at e)) }
    | inr unseen ↦ record { way = inr (lq.found ts x rest (rw unseen at e)) }
  ];
  again = λ ts x rest h clear. elim (h.way) [
    | inl g ↦ rw (g.1.first, sees_sign k g.1.token g.0 g.1.is, after_sign k g.1.token g.0 g.1.is) (lp.again g.0 x rest g.2 clear)
    | inr g ↦ rw ((av.clear ts x rest g clear).0) (lq.again ts x rest g clear)
  ];
  suffix = λ ts x rest h. elim (h.way) [
    | inl g ↦ let s = lp.suffix g.0 x rest g.2 in record { taken = g.1.token ∷ s.taken; parts = g.1.first ∙ ap (λ (t : List Tok). g.1.token ∷ t) s.parts }
    | inr g ↦ lq.suffix ts x rest g
  ];
  steady = λ ts x rest e. elim (cases_Bool (sees k ts)) [
    | inl seen ↦
        let m = lp.steady (after k ts) x rest (rw seen at e) in
        let s = sees_is k ts seen in
        record { taken = s.token ∷ m.taken; parts = s.first ∙ ap (λ (t : List Tok). s.token ∷ t) m.parts; ever = λ next same. rw (sees_sign k s.token (m.taken ++ next) s.is, after_sign k s.token (m.taken ++ next) s.is) (m.ever next same) }
    | inr unseen ↦
        let m = lq.steady ts x rest (rw unseen at e) in
        record {
          taken = m.taken;
          parts = m.parts;
          ever = λ next same.
              let alike : ahead ts ≡ ahead (m.taken ++ next) = ap ahead m.parts ∙ ahead_more m.taken rest next same in
              rw (sym (sees_ahead k ts (m.taken ++ next) alike) ∙ unseen) (m.ever next same);
        }
  ];
  stuck = λ ts e h. elim (cases_Bool (sees k ts)) [
    | inl seen ↦
        let s = lp.stuck (after k ts) e (rw seen at h) in
        let f = sees_is k ts seen in
        record {
          place = s.place;
          left = s.left;
          moves = record {
            taken = f.token ∷ s.moves.taken;
            parts = f.first ∙ ap (λ (t : List Tok). f.token ∷ t) s.moves.parts;
            ever = λ next same. rw (sees_sign k f.token (s.moves.taken ++ next) f.is, after_sign k f.token (s.moves.taken ++ next) f.is) (s.moves.ever next same);
          };
        }
    | inr unseen ↦
        let s = lq.stuck ts e (rw unseen at h) in
        record {
          place = s.place;
          left = s.left;
          moves = record {
            taken = s.moves.taken;
            parts = s.moves.parts;
            ever = λ next same.
                let alike : ahead ts ≡ ahead (s.moves.taken ++ next) = ap ahead s.moves.parts ∙ ahead_more s.moves.taken s.place next same in
                rw (sym (sees_ahead k ts (s.moves.taken ++ next) alike) ∙ unseen) (s.moves.ever next same);
          };
        }
  ];
}

abbrev pub NextLaw : {X : Type 0} → List Kind → Next X → Type 0
NextLaw ends none = Unit {0}
NextLaw ends (goes p) = Law ends p
