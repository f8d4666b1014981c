-- Choosing by the next token.
use Rattle.std.proofs.Common.{◌≡◌, ℕ, zero, suc, ◌<◌, ◌≤◌, Bool, true, false, cond, List, [], ◌∷◌, ◌++◌, length, Result, Ok, Err, ◌⊎◌, refl, sym, ap, ◌∙◌, arith, inl, inr}
use Rattle.std.proofs.lemmas.Bool.{cases_Bool}
use Rattle.std.proofs.lemmas.List.{length-append}
use Rattle.wit_productions.specs.declared.fault.Fault.{Fault}
use Rattle.wit_tokens.specs.Passed.wit_words-declared-fault-Rule.{Rule}
use Rattle.wit_tokens.specs.Passed.wit_words-declared-fault-Rule-TheVariants as rule
use Rattle.wit_tokens.specs.Passed.wit_words-declared-token-Kind.{Kind}
use Rattle.wit_tokens.specs.Passed.wit_words-Token.{What, Tok, plain, number, version, ident, explicit, same_kind}
use Rattle.wit_productions.specs.Production.{Outcome, Production, ◌>>=◌, yield, is_kind, sees, sign, one, slice, branch, Next, none, goes, leads_on, next_at, next_front, by_at, by, Chosen, or_at, by_or_at, by_or, turns, repeat}
use Rattle.wit_productions.specs.Place.{ahead}
use Rattle.wit_productions.proofs.Laws.{Clear, Moves, Stuck, Suffix, Law, Avoids, err_is, ahead_is, ahead_none, ahead_more, NextLaw, kind_is}
use Rattle.wit_tokens.proofs.Passed.wit_words-SameKinds.{same_is}

next_found : {X : Type 0} (ends : List Kind) (whole : List Tok) (n : Next X) → NextLaw ends n → (ts : List Tok) (x : X) (rest : List Tok) → next_at whole n ts ≡ Ok (x, rest) → next_front n x ts rest
next_found ends whole none l ts x rest e = absurd cc
next_found ends whole (goes p) l ts x rest e = l.found ts x rest e

next_again : {X : Type 0} (ends : List Kind) (whole : List Tok) (n : Next X) → NextLaw ends n → (ts : List Tok) (x : X) (rest : List Tok) → next_front n x ts rest → Clear ends rest → next_at whole n ts ≡ Ok (x, rest)
next_again ends whole none l ts x rest h clear = absurd h
next_again ends whole (goes p) l ts x rest h clear = l.again ts x rest h clear

next_suffix : {X : Type 0} (ends : List Kind) (n : Next X) → NextLaw ends n → (ts : List Tok) (x : X) (rest : List Tok) → next_front n x ts rest → Suffix ts rest
next_suffix ends none l ts x rest h = absurd h
next_suffix ends (goes p) l ts x rest h = l.suffix ts x rest h

next_steady : {X : Type 0} (ends : List Kind) (t : Tok) (n : Next X) → NextLaw ends n → (ts : List Tok) (x : X) (rest : List Tok) → next_at (t ∷ ts) n ts ≡ Ok (x, rest) → Moves ts rest (λ us next. next_at (t ∷ us) n us ≡ Ok (x, next))
next_steady ends t none l ts x rest e = absurd cc
next_steady ends t (goes p) l ts x rest e = l.steady ts x rest e

next_stuck : {X : Type 0} (ends : List Kind) (t : Tok) (n : Next X) (read : List Tok → Outcome X) → ((u : Tok) (us : List Tok) → u.what ≡ t.what → read (u ∷ us) ≡ next_at (u ∷ us) n us) → NextLaw ends n
    → (ts : List Tok) (e : Fault) → next_at (t ∷ ts) n ts ≡ Err e → Stuck read (t ∷ ts) e
next_stuck {X = X} ends t none read agrees l ts e h =
    let w = err_is {A = X} (record { rule = rule.Unexpected; left = length (t ∷ ts) }) e h in
    record {
      place = t ∷ ts;
      left = ap (λ (f : Fault). f.left) w;
      moves = record {
        taken = [];
        parts = refl;
        ever = λ next same.
            let a = ahead_is t ts next same in
            let q : rule.Unexpected ≡ e.rule = ap (λ (f : Fault). f.rule) w in
            rw (a.2, agrees a.0 a.1 a.3, q) refl;
      };
    }
next_stuck ends t (goes p) read agrees l ts e h =
    let s = l.stuck ts e h in
    record { place = s.place; left = s.left; moves = record { taken = t ∷ s.moves.taken; parts = ap (λ (us : List Tok). t ∷ us) s.moves.parts; ever = λ next same. agrees t (s.moves.taken ++ next) refl ∙ s.moves.ever next same } }

by_found : {X : Type 0} (ends : List Kind) (table : What → Next X) → ((t : What) → NextLaw ends (table t)) → (ts : List Tok) (x : X) (rest : List Tok) → by_at table ts ≡ Ok (x, rest) → Chosen table x ts rest
by_found ends table l [] x rest e = absurd cc
by_found ends table l (t ∷ ts) x rest e = record { token = t; mid = ts; first = refl; second = next_found ends (t ∷ ts) (table t.what) (l t.what) ts x rest e }

by_steady : {X : Type 0} (ends : List Kind) (table : What → Next X) → ((t : What) → NextLaw ends (table t)) → (ts : List Tok) (x : X) (rest : List Tok) → by_at table ts ≡ Ok (x, rest) → Moves ts rest (λ us next. by_at table us ≡ Ok (x, next))
by_steady ends table l [] x rest e = absurd cc
by_steady ends table l (t ∷ ts) x rest e =
    let m = next_steady ends t (table t.what) (l t.what) ts x rest e in
    record { taken = t ∷ m.taken; parts = ap (λ (us : List Tok). t ∷ us) m.parts; ever = λ next same. m.ever next same }

by_stuck : {X : Type 0} (ends : List Kind) (table : What → Next X) → ((t : What) → NextLaw ends (table t)) → (ts : List Tok) (e : Fault) → by_at table ts ≡ Err e → Stuck (by_at table) ts e
by_stuck {X = X} ends table l [] e h =
    let w = err_is {A = X} (record { rule = rule.Unexpected; left = 0 }) e h in
    record { place = []; left = ap (λ (f : Fault). f.left) w; moves = record { taken = []; parts = refl; ever = λ next same. let q : rule.Unexpected ≡ e.rule = ap (λ (f : Fault). f.rule) w in rw (ahead_none next same, ← q) refl } }
by_stuck ends table l (t ∷ ts) e h = next_stuck ends t (table t.what) (by_at table) (λ u us same. rw same refl) (l t.what) ts e h

pub by_law : {X : Type 0} (ends : List Kind) (table : What → Next X) → ((t : What) → NextLaw ends (table t)) → Law ends (by table)
by_law ends table l = record {
  found = by_found ends table l;
  again = λ ts x rest h clear. rw (h.first) (next_again ends (h.token ∷ h.mid) (table h.token.what) (l h.token.what) h.mid x rest h.second clear);
  suffix = λ ts x rest h. let s = next_suffix ends (table h.token.what) (l h.token.what) h.mid x rest h.second in record { taken = h.token ∷ s.taken; parts = h.first ∙ ap (λ (us : List Tok). h.token ∷ us) s.parts };
  steady = by_steady ends table l;
  stuck = by_stuck ends table l;
}

-- that it takes a token; what stands behind its first part has the law with these ends

pub record Goes {X : Type 0} (ends : List Kind) (p : Production X) : Type 0 where
  pub shorter : (ts : List Tok) (x : X) (rest : List Tok) → p.front x ts rest → length rest < length ts

-- ---- by the next token, or else something that begins with another

-- what it reads begins with a token that leads nowhere
pub record Beyond {X Y : Type 0} (table : What → Next X) (q : Production Y) : Type 0 where
  pub nowhere : (ts : List Tok) (x : Y) (rest : List Tok) → q.front x ts rest → (t : Tok) (us : List Tok) → ts ≡ t ∷ us → leads_on (table t.what) ≡ false

pub beyond_first : {X A B : Type 0} (table : What → Next X) (p : Production A) (g : A → Production B) → Beyond table p → Beyond table (p >>= g)
beyond_first table p g b = record { nowhere = λ ts x rest h t us e. b.nowhere ts h.value h.mid h.first t us e }

none_on : {X : Type 0} (n : Next X) → leads_on n ≡ false → n ≡ none
none_on none e = refl
none_on (goes p) e = absurd cc

or_found : {X : Type 0} (ends : List Kind) (q : Production X) → Law ends q → (t : Tok) (n : Next X) → NextLaw ends n → (ts : List Tok) (x : X) (rest : List Tok) → or_at (t ∷ ts) q.read n ts ≡ Ok (x, rest) → next_front n x ts rest ⊎ q.front x (t ∷ ts) rest
or_found ends q lq t none l ts x rest e = inr (lq.found (t ∷ ts) x rest e)
or_found ends q lq t (goes p) l ts x rest e = inl (l.found ts x rest e)

or_again : {X : Type 0} (ends : List Kind) (whole : List Tok) (q : Production X) (n : Next X) → NextLaw ends n → (ts : List Tok) (x : X) (rest : List Tok) → next_front n x ts rest → Clear ends rest → or_at whole q.read n ts ≡ Ok (x, rest)
or_again ends whole q none l ts x rest h clear = absurd h
or_again ends whole q (goes p) l ts x rest h clear = l.again ts x rest h clear

-- where it goes on by another production, whatever stands behind the next token
other_agrees : {X : Type 0} (table : What → Next X) (q : Production X) (t : Tok) (ts us : List Tok) → table t.what ≡ none → ahead (t ∷ ts) ≡ ahead us → by_or_at table q.read us ≡ q.read us
other_agrees table q t ts us e same = let a = ahead_is t ts us same in rw (a.2, a.3, e) refl

or_steady : {X : Type 0} (ends : List Kind) (table : What → Next X) (q : Production X) → Law ends q → (t : Tok) (n : Next X) → table t.what ≡ n → NextLaw ends n → (ts : List Tok) (x : X) (rest : List Tok) → or_at (t ∷ ts) q.read n ts ≡ Ok (x, rest)
    → Moves (t ∷ ts) rest (λ us next. by_or_at table q.read us ≡ Ok (x, next))
or_steady ends table q lq t none is l ts x rest e =
    let m = lq.steady (t ∷ ts) x rest e in
    record { taken = m.taken; parts = m.parts; ever = λ next same. other_agrees table q t ts (m.taken ++ next) is (ap ahead m.parts ∙ ahead_more m.taken rest next same) ∙ m.ever next same }
or_steady ends table q lq t (goes p) is l ts x rest e =
    let m = l.steady ts x rest e in
    record { taken = t ∷ m.taken; parts = ap (λ (us : List Tok). t ∷ us) m.parts; ever = λ next same. rw is (m.ever next same) }

or_stuck : {X : Type 0} (ends : List Kind) (table : What → Next X) (q : Production X) → Law ends q → (t : Tok) (n : Next X) → table t.what ≡ n → NextLaw ends n → (ts : List Tok) (e : Fault) → or_at (t ∷ ts) q.read n ts ≡ Err e
    → Stuck (by_or_at table q.read) (t ∷ ts) e
or_stuck ends table q lq t none is l ts e h =
    let s = lq.stuck (t ∷ ts) e h in
    record { place = s.place; left = s.left; moves = record { taken = s.moves.taken; parts = s.moves.parts; ever = λ next same. other_agrees table q t ts (s.moves.taken ++ next) is (ap ahead s.moves.parts ∙ ahead_more s.moves.taken s.place next same) ∙ s.moves.ever next same } }
or_stuck ends table q lq t (goes p) is l ts e h =
    let s = l.stuck ts e h in
    record { place = s.place; left = s.left; moves = record { taken = t ∷ s.moves.taken; parts = ap (λ (us : List Tok). t ∷ us) s.moves.parts; ever = λ next same. rw is (s.moves.ever next same) } }

module _ {X : Type 0} (ends : List Kind) (table : What → Next X) (q : Production X) (l : (t : What) → NextLaw ends (table t)) (lq : Law ends q) (beyond : Beyond table q) (goes_q : Goes ends q) where
  by_or_found : (ts : List Tok) (x : X) (rest : List Tok) → by_or_at table q.read ts ≡ Ok (x, rest) → Chosen table x ts rest ⊎ q.front x ts rest
  by_or_found [] x rest e = inr (lq.found [] x rest e)
  by_or_found (t ∷ ts) x rest e = elim (or_found ends q lq t (table t.what) (l t.what) ts x rest e) [
    | inl n ↦ inl (record { token = t; mid = ts; first = refl; second = n })
    | inr h ↦ inr h
  ]

  by_or_again : (ts : List Tok) (x : X) (rest : List Tok) → Chosen table x ts rest ⊎ q.front x ts rest → Clear ends rest → by_or_at table q.read ts ≡ Ok (x, rest)
  by_or_again ts x rest (inl h) c = rw (h.first) (or_again ends (h.token ∷ h.mid) q (table h.token.what) (l h.token.what) h.mid x rest h.second c)
  by_or_again [] x rest (inr h) c = lq.again [] x rest h c
  by_or_again (t ∷ ts) x rest (inr h) c = rw (none_on (table t.what) (beyond.nowhere (t ∷ ts) x rest h t ts refl)) (lq.again (t ∷ ts) x rest h c)

  by_or_suffix : (ts : List Tok) (x : X) (rest : List Tok) → Chosen table x ts rest ⊎ q.front x ts rest → Suffix ts rest
  by_or_suffix ts x rest (inl h) = let s = next_suffix ends (table h.token.what) (l h.token.what) h.mid x rest h.second in record { taken = h.token ∷ s.taken; parts = h.first ∙ ap (λ (us : List Tok). h.token ∷ us) s.parts }
  by_or_suffix ts x rest (inr h) = lq.suffix ts x rest h

  by_or_steady : (ts : List Tok) (x : X) (rest : List Tok) → by_or_at table q.read ts ≡ Ok (x, rest) → Moves ts rest (λ us next. by_or_at table q.read us ≡ Ok (x, next))
  by_or_steady [] x rest e = absurd (let s = goes_q.shorter [] x rest (lq.found [] x rest e) in omega arith)
  by_or_steady (t ∷ ts) x rest e = or_steady ends table q lq t (table t.what) refl (l t.what) ts x rest e

  by_or_stuck : (ts : List Tok) (e : Fault) → by_or_at table q.read ts ≡ Err e → Stuck (by_or_at table q.read) ts e
  by_or_stuck [] e h =
      let s = lq.stuck [] e h in
      record { place = s.place; left = s.left; moves = record { taken = s.moves.taken; parts = s.moves.parts; ever = λ next same. at_none (s.moves.taken ++ next) (sym (at_end s.moves.taken s.place next s.moves.parts same)) ∙ s.moves.ever next same } }
    where
      at_end : (taken place next : List Tok) → [] ≡ taken ++ place → ahead place ≡ ahead next → [] ≡ taken ++ next
      at_end [] place next e same = sym (ahead_none next (ap ahead e ∙ same))
      at_end (u ∷ taken) place next e same = absurd cc

      at_none : (us : List Tok) → us ≡ [] → by_or_at table q.read us ≡ q.read us
      at_none us is = rw is refl
  by_or_stuck (t ∷ ts) e h = or_stuck ends table q lq t (table t.what) refl (l t.what) ts e h

  pub by_or_law : Law ends (by_or table q)
  unfolding by_or
  by_or_law = record { found = by_or_found; again = by_or_again; suffix = by_or_suffix; steady = by_or_steady; stuck = by_or_stuck }

-- ---- what it begins with

abbrev pub is_outside : Kind → List Kind → Bool
is_outside k [] = true
is_outside k (j ∷ js) = cond (same_kind k j) false (is_outside k js)

abbrev pub is_within : List Kind → List Kind → Bool
is_within [] js = true
is_within (k ∷ ks) js = cond (is_outside k js) false (is_within ks js)

abbrev pub leads_nowhere : {X : Type 0} → List Kind → (What → Next X) → Type 1
leads_nowhere [] table = Unit {1}
leads_nowhere (k ∷ ks) table = (table (plain k) ≡ none) × leads_nowhere ks table

outside_clear : (k : Kind) (ks : List Kind) (t : Tok) (ts : List Tok) → t.what ≡ plain k → is_outside k ks ≡ true → Clear ks (t ∷ ts)
unfolding sees
outside_clear k [] t ts is e = tt
outside_clear k (j ∷ js) t ts is e = elim (cases_Bool (same_kind k j)) [
  | inl same ↦ absurd (let bad = rw same at e in cc)
  | inr other ↦ (rw is other, outside_clear k js t ts is (rw other at e))
]

missing_clear : (k : Kind) (js : List Kind) (ts : List Tok) → is_outside k js ≡ false → Clear js ts → sees k ts ≡ false
unfolding sees
missing_clear k [] ts e c = absurd cc
missing_clear k (j ∷ js) ts e c = elim (cases_Bool (same_kind k j)) [
  | inl same ↦ rw (same_is k j same) (c.0)
  | inr other ↦ missing_clear k js ts (rw other at e) c.1
]

within_clear : (ks js : List Kind) (ts : List Tok) → is_within ks js ≡ true → Clear js ts → Clear ks ts
within_clear [] js ts e c = tt
within_clear (k ∷ ks) js ts e c = elim (cases_Bool (is_outside k js)) [
  | inl out ↦ absurd (let bad = rw out at e in cc)
  | inr there ↦ (missing_clear k js ts there c, within_clear ks js ts (rw there at e) c)
]

pub avoid_yield : {X : Type 0} (ends begins : List Kind) (x : X) → is_within begins ends ≡ true → Avoids ends begins (yield x)
avoid_yield ends begins x e = record { clear = λ ts y rest h c. rw (h.0) (within_clear begins ends rest e c) }

pub avoid_sign : (ends begins : List Kind) (k : Kind) → is_outside k begins ≡ true → Avoids ends begins (sign k)
unfolding sign
avoid_sign ends begins k e = record { clear = λ ts u rest h c. rw (h.first) (outside_clear k begins h.token rest h.is e) }

-- a token that is no sign or keyword
other_kind : {X : Type 0} (judge : What → Result X Rule) (r : Rule) → ((k : Kind) → judge (plain k) ≡ Err r) → (k : Kind) (w : What) (x : X) → judge w ≡ Ok x → is_kind k w ≡ false
other_kind judge r nowhere k (plain j) x e = absurd (let bad = nowhere j in cc)
other_kind judge r nowhere k (number s) x e = refl
other_kind judge r nowhere k (version s) x e = refl
other_kind judge r nowhere k (ident s) x e = refl
other_kind judge r nowhere k (explicit s) x e = refl

clear_of_other : {X : Type 0} (judge : What → Result X Rule) (r : Rule) → ((k : Kind) → judge (plain k) ≡ Err r) → (ks : List Kind) (t : Tok) (x : X) (rest : List Tok) → judge t.what ≡ Ok x → Clear ks (t ∷ rest)
unfolding sees
clear_of_other judge r nowhere [] t x rest e = tt
clear_of_other judge r nowhere (k ∷ ks) t x rest e = (other_kind judge r nowhere k t.what x e, clear_of_other judge r nowhere ks t x rest e)

-- what takes no sign or keyword
pub avoid_slice : (ends begins : List Kind) (judge : What → Result (List ℕ) Rule) (r : Rule) → ((k : Kind) → judge (plain k) ≡ Err r) → Avoids ends begins (slice judge)
avoid_slice ends begins judge r nowhere = record { clear = λ ts x rest h c. rw (h.first) (clear_of_other judge r nowhere begins h.token x.text rest h.good) }

pub avoid_first : {A B : Type 0} (ends begins : List Kind) (f : Production A) (g : A → Production B) → Avoids [] begins f → Avoids ends begins (f >>= g)
avoid_first ends begins f g av = record { clear = λ ts x rest h c. av.clear ts h.value h.mid h.first tt }

pub avoid_skip : {A B : Type 0} (ends begins : List Kind) (f : Production A) (g : A → Production B) → Avoids begins begins f → ((a : A) → Avoids ends begins (g a)) → Avoids ends begins (f >>= g)
avoid_skip ends begins f g av ag = record { clear = λ ts x rest h c. av.clear ts h.value h.mid h.first ((ag h.value).clear h.mid x rest h.second c) }

pub avoid_branch : {X : Type 0} (ends begins : List Kind) (k : Kind) (p q : Production X) → is_outside k begins ≡ true → Avoids ends begins q → Avoids ends begins (branch k p q)
unfolding branch
avoid_branch ends begins k p q e av = record {
  clear = λ ts x rest h c. elim (h.way) [
    | inl g ↦ rw (g.1.first) (outside_clear k begins g.1.token g.0 g.1.is e)
    | inr g ↦ av.clear ts x rest g c
  ];
}

next_none : {X : Type 0} (n : Next X) (x : X) (ts rest : List Tok) → n ≡ none → next_front n x ts rest → ⊥
next_none n x ts rest e h = rw e at h

clear_of_table : {X : Type 0} (table : What → Next X) (ks : List Kind) → leads_nowhere ks table → (t : Tok) (x : X) (mid rest : List Tok) → next_front (table t.what) x mid rest → Clear ks (t ∷ mid)
unfolding sees
clear_of_table table [] nowhere t x mid rest h = tt
clear_of_table table (k ∷ ks) nowhere t x mid rest h = elim (cases_Bool (is_kind k t.what)) [
  | inl same ↦ absurd (next_none (table t.what) x mid rest (rw (kind_is k t.what same) (nowhere.0)) h)
  | inr other ↦ (other, clear_of_table table ks nowhere.1 t x mid rest h)
]

pub avoid_by : {X : Type 0} (ends begins : List Kind) (table : What → Next X) → leads_nowhere begins table → Avoids ends begins (by table)
avoid_by ends begins table nowhere = record { clear = λ ts x rest h c. rw (h.first) (clear_of_table table begins nowhere h.token x h.mid rest h.second) }

pub avoid_by_or : {X : Type 0} (ends begins : List Kind) (table : What → Next X) (q : Production X) → leads_nowhere begins table → Avoids ends begins q → Avoids ends begins (by_or table q)
unfolding by_or
avoid_by_or ends begins table q nowhere av = record { clear = λ ts x rest h c. elim h [ inl n ↦ (avoid_by ends begins table nowhere).clear ts x rest n c | inr o ↦ av.clear ts x rest o c ] }

pub avoid_turns : {X : Type 0} (ends begins : List Kind) (step : Production X → Production X) → ((p : Production X) → Avoids ends begins (step p)) → Avoids ends begins (repeat step)
unfolding turns
avoid_turns {X = X} ends begins step av = record { clear = λ ts x rest h c. in_turns h.0 ts x rest h.1 c }
  where
    in_turns : (n : ℕ) (ts : List Tok) (x : X) (rest : List Tok) → (turns step n).front x ts rest → Clear ends rest → Clear begins ts
    in_turns zero ts x rest h c = absurd h
    in_turns (suc n) ts x rest h c = (av (turns step n)).clear ts x rest h c

-- ---- that it takes a token

pub suffix_length : (ts rest : List Tok) → Suffix ts rest → length rest ≤ length ts
suffix_length ts rest s = let l : length ts ≡ length (s.taken ++ rest) = ap length s.parts in omega (arith, length-append s.taken rest)

pub goes_one : {X : Type 0} (ends : List Kind) (judge : What → Result X Rule) → Goes ends (one judge)
goes_one ends judge = record { shorter = λ ts x rest h. let l : length ts ≡ suc (length rest) = rw (h.first) refl in omega arith }

pub goes_slice : (ends : List Kind) (judge : What → Result (List ℕ) Rule) → Goes ends (slice judge)
goes_slice ends judge = record { shorter = λ ts x rest h. let l : length ts ≡ suc (length rest) = rw (h.first) refl in omega arith }

pub goes_first : {A B : Type 0} (ends : List Kind) (f : Production A) (g : A → Production B) → Goes [] f → ((a : A) → Law ends (g a)) → Goes ends (f >>= g)
goes_first ends f g gf lg = record { shorter = λ ts x rest h. omega (arith, gf.shorter ts h.value h.mid h.first, suffix_length h.mid rest ((lg h.value).suffix h.mid x rest h.second)) }

pub goes_second : {A B : Type 0} (ends inner : List Kind) (f : Production A) (g : A → Production B) → Law inner f → ((a : A) → Goes ends (g a)) → Goes ends (f >>= g)
goes_second ends inner f g lf gg = record { shorter = λ ts x rest h. omega (arith, suffix_length ts h.mid (lf.suffix ts h.value h.mid h.first), (gg h.value).shorter h.mid x rest h.second) }

pub goes_branch : {X : Type 0} (ends : List Kind) (k : Kind) (p q : Production X) → Law ends p → Goes ends q → Goes ends (branch k p q)
unfolding branch
goes_branch ends k p q lp gq = record {
  shorter = λ ts x rest h. elim (h.way) [
    | inl g ↦ let l : length ts ≡ suc (length g.0) = rw (g.1.first) refl in omega (arith, suffix_length g.0 rest (lp.suffix g.0 x rest g.2))
    | inr g ↦ gq.shorter ts x rest g
  ];
}

pub goes_by : {X : Type 0} (ends : List Kind) (table : What → Next X) → ((t : What) → NextLaw ends (table t)) → Goes ends (by table)
goes_by ends table l = record {
  shorter = λ ts x rest h.
      let m : length ts ≡ suc (length h.mid) = rw (h.first) refl in
      omega (arith, suffix_length h.mid rest (next_suffix ends (table h.token.what) (l h.token.what) h.mid x rest h.second));
}

pub goes_by_or : {X : Type 0} (ends : List Kind) (table : What → Next X) (q : Production X) → ((t : What) → NextLaw ends (table t)) → Goes ends q → Goes ends (by_or table q)
unfolding by_or
goes_by_or ends table q l g = record { shorter = λ ts x rest h. elim h [ inl n ↦ (goes_by ends table l).shorter ts x rest n | inr o ↦ g.shorter ts x rest o ] }
