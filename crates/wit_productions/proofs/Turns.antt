-- Any number of turns.
use Rattle.std.proofs.Common.{◌≡◌, ℕ, zero, suc, ◌+◌, ◌<◌, true, List, [], ◌∷◌, ◌++◌, length, Ok, Err, refl, sym, ap, subst, ◌∙◌, arith, inl, inr}
use Rattle.std.proofs.lemmas.Bool.{cases_Bool}
use Rattle.std.proofs.lemmas.List.{length-append}
use Rattle.wit_productions.specs.declared.fault.Fault.{Fault}
use Rattle.wit_tokens.specs.Passed.wit_words-declared-fault-Rule-TheVariants as rule
use Rattle.wit_tokens.specs.Passed.wit_words-declared-token-Kind.{Kind}
use Rattle.wit_tokens.specs.Passed.wit_words-declared-token-Kind-TheVariants as kind
use Rattle.wit_tokens.specs.Passed.wit_words-Token.{Tok, same_kind}
use Rattle.wit_productions.specs.Production.{Outcome, Production, and_then, ◌>>=◌, ◌>>◌, yield, sees, after, sign, branch, turns, repeat, comma_step, commas, some_commas, until_step, until, at_end_at, at_end, all_step, all, many_step, many, Takes, Next, none, goes, next_then}
use Rattle.wit_productions.specs.Place.{ahead}
use Rattle.wit_productions.proofs.Laws.{Clear, Moves, Stuck, Suffix, Law, Avoids, refuse_law, bind_law, bind_open, yield_law, sign_law, branch_law, sees_is, NextLaw, ok_parts, ahead_more, ahead_none, ahead_is}
use Rattle.wit_productions.proofs.Choices.{Goes, is_outside, is_within, avoid_yield, avoid_first, avoid_branch, avoid_sign, avoid_turns, goes_first}

-- what a turn gives at a place depends on the others further on alone
pub record Shrinks {X : Type 0} (step : Production X → Production X) : Type 1 where
  pub reads : (p q : Production X) (ts : List Tok) → ((us : List Tok) → length us < length ts → p.read us ≡ q.read us) → (step p).read ts ≡ (step q).read ts
  pub fronts : (p q : Production X) (ts : List Tok) (x : X) (rest : List Tok)
      → ((us : List Tok) (y : X) (r : List Tok) → length us < length ts → p.front y us r → q.front y us r) → (step p).front x ts rest → (step q).front x ts rest

abbrev pub ReadsFurther : {X : Type 0} → (Production X → Production X) → Type 1
ReadsFurther {X = X} step = (p q : Production X) (ts : List Tok) → ((us : List Tok) → length us < length ts → p.read us ≡ q.read us) → (step p).read ts ≡ (step q).read ts

module _ {X : Type 0} (step : Production X → Production X) (reads : ReadsFurther step) where
  same_reads : (n m : ℕ) (ts : List Tok) → length ts < n → length ts < m → (turns step n).read ts ≡ (turns step m).read ts
  unfolding turns
  same_reads zero m ts a b = absurd (omega arith)
  same_reads (suc n) zero ts a b = absurd (omega arith)
  same_reads (suc n) (suc m) ts a b = reads (turns step n) (turns step m) ts (λ us l. same_reads n m us (omega arith) (omega arith))

module _ {X : Type 0} (step : Production X → Production X) (s : Shrinks step) where
  enough_fronts : (n m : ℕ) (ts : List Tok) (x : X) (rest : List Tok) → length ts < m → (turns step n).front x ts rest → (turns step m).front x ts rest
  unfolding turns
  enough_fronts zero m ts x rest b h = absurd h
  enough_fronts (suc n) zero ts x rest b h = absurd (omega arith)
  enough_fronts (suc n) (suc m) ts x rest b h = s.fronts (turns step n) (turns step m) ts x rest (λ us y r l g. enough_fronts n m us y r (omega arith) g) h

turns_avoid : {X : Type 0} (ends begins : List Kind) (step : Production X → Production X) → ((p : Production X) → Avoids ends begins (step p)) → (n : ℕ) → Avoids ends begins (turns step n)
unfolding turns
turns_avoid ends begins step a zero = record { clear = λ ts x rest h c. absurd h }
turns_avoid ends begins step a (suc n) = a (turns step n)

turns_law : {X : Type 0} (ends begins : List Kind) (step : Production X → Production X) → ((p : Production X) → Avoids ends begins (step p)) → ((p : Production X) → Law ends p → Avoids ends begins p → Law ends (step p)) → (n : ℕ) → Law ends (turns step n)
unfolding turns
turns_law ends begins step a l zero = refuse_law ends rule.Unexpected
turns_law ends begins step a l (suc n) = l (turns step n) (turns_law ends begins step a l n) (turns_avoid ends begins step a n)

pub same_cut : (a b c d : List Tok) → a ++ b ≡ c ++ d → length b ≡ length d → (a ≡ c) × (b ≡ d)
same_cut [] b [] d e l = (refl, e)
same_cut [] b (x ∷ c) d e l = absurd (let k : length b ≡ suc (length (c ++ d)) = ap length e in omega (arith, length-append c d))
same_cut (x ∷ a) b [] d e l = absurd (let k : suc (length (a ++ b)) ≡ length d = ap length e in omega (arith, length-append a b))
same_cut (x ∷ a) b (y ∷ c) d e l =
    let h : x ≡ y = cc in
    let t : a ++ b ≡ c ++ d = cc in
    let r = same_cut a b c d t l in
    (rw (h, r.0) refl, r.1)

pub repeat_law : {X : Type 0} (ends begins : List Kind) (step : Production X → Production X) → ((p : Production X) → Avoids ends begins (step p)) → ((p : Production X) → Law ends p → Avoids ends begins p → Law ends (step p)) → Shrinks step → Law ends (repeat step)
repeat_law {X = X} ends begins step a l s = record {
  found = λ ts x rest e. (suc (length ts), (law (suc (length ts))).found ts x rest e);
  again = λ ts x rest h clear. (law (suc (length ts))).again ts x rest (enough_fronts step s h.0 (suc (length ts)) ts x rest (omega arith) h.1) clear;
  suffix = λ ts x rest h. (law h.0).suffix ts x rest h.1;
  steady = λ ts x rest e.
      let m = (law (suc (length ts))).steady ts x rest e in
      record { taken = m.taken; parts = m.parts; ever = λ next same. steady_with ts x rest next same e m };
  stuck = λ ts e h.
      let m = (law (suc (length ts))).stuck ts e h in
      record { place = m.place; left = m.left; moves = record { taken = m.moves.taken; parts = m.moves.parts; ever = λ next same. stuck_with ts e next h m same } };
}
  where
    law : (n : ℕ) → Law ends (turns step n)
    law n = turns_law ends begins step a l n

    steady_with : (ts : List Tok) (x : X) (rest next : List Tok) → ahead rest ≡ ahead next → (repeat step).read ts ≡ Ok (x, rest)
        → (m : Moves ts rest (λ us next. (turns step (suc (length ts))).read us ≡ Ok (x, next))) → (repeat step).read (m.taken ++ next) ≡ Ok (x, next)
    steady_with ts x rest next same e m =
        let n = suc (length ts) + suc (length (m.taken ++ next)) in
        let wide : (turns step n).read ts ≡ Ok (x, rest) = same_reads step s.reads n (suc (length ts)) ts (omega arith) (omega arith) ∙ e in
        let w = (law n).steady ts x rest wide in
        let cut = same_cut w.taken rest m.taken rest (sym w.parts ∙ m.parts) refl in
        let there : (turns step n).read (m.taken ++ next) ≡ Ok (x, next) = subst (λ (t : List Tok). (turns step n).read (t ++ next) ≡ Ok (x, next)) cut.0 (w.ever next same) in
        same_reads step s.reads (suc (length (m.taken ++ next))) n (m.taken ++ next) (omega arith) (omega arith) ∙ there

    stuck_with : (ts : List Tok) (e : Fault) (next : List Tok) → (repeat step).read ts ≡ Err e → (m : Stuck (turns step (suc (length ts))).read ts e)
        → ahead m.place ≡ ahead next → (repeat step).read (m.moves.taken ++ next) ≡ Err (record { rule = e.rule; left = length next })
    stuck_with ts e next h m same =
        let n = suc (length ts) + suc (length (m.moves.taken ++ next)) in
        let wide : (turns step n).read ts ≡ Err e = same_reads step s.reads n (suc (length ts)) ts (omega arith) (omega arith) ∙ h in
        let w = (law n).stuck ts e wide in
        let cut = same_cut w.moves.taken w.place m.moves.taken m.place (sym w.moves.parts ∙ m.moves.parts) (w.left ∙ sym m.left) in
        let alike : ahead w.place ≡ ahead next = ap ahead cut.1 ∙ same in
        let there : (turns step n).read (m.moves.taken ++ next) ≡ Err (record { rule = e.rule; left = length next }) =
        subst (λ (t : List Tok). (turns step n).read (t ++ next) ≡ Err (record { rule = e.rule; left = length next })) cut.0 (w.moves.ever next alike) in
        same_reads step s.reads (suc (length (m.moves.taken ++ next))) n (m.moves.taken ++ next) (omega arith) (omega arith) ∙ there

-- ---- lists

pub after_shorter : (k : Kind) (ts : List Tok) → sees k ts ≡ true → length (after k ts) < length ts
after_shorter k ts e = let l : length ts ≡ suc (length (after k ts)) = ap length (sees_is k ts e).first in omega arith

pub takes : {A : Type 0} (ends : List Kind) (item : Production A) → Law ends item → Goes ends item → Takes item
takes ends item l g = λ ts x rest e. g.shorter ts x rest (l.found ts x rest e)

until_reads : {A : Type 0} (item : Production A) (shut : Kind) → Takes item → ReadsFurther (until_step item shut)
unfolding branch
until_reads {A = A} item shut t p q ts h = elim (cases_Bool (sees shut ts)) [
  | inl seen ↦ rw seen refl
  | inr unseen ↦ rw unseen (on (item.read ts) refl)
]
  where
    on : (o : Outcome A) → item.read ts ≡ o → and_then o (λ x. (p >>= (λ xs. yield (x ∷ xs))).read) ≡ and_then o (λ x. (q >>= (λ xs. yield (x ∷ xs))).read)
    on (Ok r) e = rw (h r.1 (t ts r.0 r.1 e)) refl
    on (Err e) i = refl

until_fronts : {A : Type 0} (ends : List Kind) (item : Production A) (shut : Kind) → Goes ends item → (p q : Production (List A)) (ts : List Tok) (x : List A) (rest : List Tok)
    → ((us : List Tok) (y : List A) (r : List Tok) → length us < length ts → p.front y us r → q.front y us r) → (until_step item shut p).front x ts rest → (until_step item shut q).front x ts rest
unfolding branch
until_fronts ends item shut g p q ts x rest h f = elim (f.way) [
  | inl closed ↦ record { way = inl closed }
  | inr more ↦
      let m = more.second in
      record { way = inr (record { value = more.value; mid = more.mid; first = more.first; second = record { value = m.value; mid = m.mid; first = h more.mid m.value m.mid (g.shorter ts more.value more.mid more.first) m.first; second = m.second } }) }
]

until_shrinks : {A : Type 0} (ends : List Kind) (item : Production A) (shut : Kind) → Law ends item → Goes ends item → Shrinks (until_step item shut)
until_shrinks ends item shut l g = record { reads = until_reads item shut (takes ends item l g); fronts = until_fronts ends item shut g }

pub weaken : {X : Type 0} (ends : List Kind) (p : Production X) → Law [] p → Law ends p
weaken ends p l = record { found = l.found; again = λ ts x rest h clear. l.again ts x rest h tt; suffix = l.suffix; steady = l.steady; stuck = l.stuck }

-- what ends an item must not be what another begins with, nor what closes the list
pub until_open : {A : Type 0} (ends inner : List Kind) (item : Production A) (shut : Kind) → Law inner item → Goes inner item → Avoids [] (shut ∷ []) item → Avoids [] inner item → is_outside shut inner ≡ true → Law ends (until item shut)
unfolding until
until_open {A = A} ends inner item shut l g other again apart =
    weaken ends (until item shut) (repeat_law [] inner (until_step item shut) avoids step (until_shrinks inner item shut l g))
  where
    avoids : (p : Production (List A)) → Avoids [] inner (until_step item shut p)
    avoids p = avoid_branch [] inner shut (yield []) (item >>= (λ x. p >>= (λ xs. yield (x ∷ xs)))) apart (avoid_first [] inner item (λ x. p >>= (λ xs. yield (x ∷ xs))) again)

    step : (p : Production (List A)) → Law [] p → Avoids [] inner p → Law [] (until_step item shut p)
    step p lp ap = branch_law [] shut (yield []) (item >>= (λ x. p >>= (λ xs. yield (x ∷ xs)))) (yield_law [] [])
        (bind_open [] inner item (λ x. p >>= (λ xs. yield (x ∷ xs))) l
        (λ x. bind_law [] p (λ xs. yield (x ∷ xs)) lp (λ xs. yield_law [] (x ∷ xs)))
        (λ x. avoid_first [] inner p (λ xs. yield (x ∷ xs)) ap))
        (avoid_first [] (shut ∷ []) item (λ x. p >>= (λ xs. yield (x ∷ xs))) other)

pub until_law : {A : Type 0} (ends : List Kind) (item : Production A) (shut : Kind) → Law [] item → Goes [] item → Avoids [] (shut ∷ []) item → Law ends (until item shut)
until_law ends item shut l g other = until_open ends [] item shut l g other (record { clear = λ ts x rest h c. tt }) refl

-- ---- with commas

comma_reads : {A : Type 0} (item : Production A) (shut : Kind) → Takes item → ReadsFurther (comma_step item shut)
unfolding branch
comma_reads {A = A} item shut t p q ts h = elim (cases_Bool (sees shut ts)) [
  | inl seen ↦ rw seen refl
  | inr unseen ↦ rw unseen (on (item.read ts) refl)
]
  where
    next : Production (List A) → A → Production (List A)
    next r x = branch kind.Comma (r >>= (λ xs. yield (x ∷ xs))) (sign shut >> yield (x ∷ []))

    on : (o : Outcome A) → item.read ts ≡ o → and_then o (λ x. (next p x).read) ≡ and_then o (λ x. (next q x).read)
    on (Ok r) e = elim (cases_Bool (sees kind.Comma r.1)) [
      | inl seen ↦ rw seen (rw (h (after kind.Comma r.1) (omega (arith, t ts r.0 r.1 e, after_shorter kind.Comma r.1 seen))) refl)
      | inr unseen ↦ rw unseen refl
    ]
    on (Err e) i = refl

comma_fronts : {A : Type 0} (ends : List Kind) (item : Production A) (shut : Kind) → Goes ends item → (p q : Production (List A)) (ts : List Tok) (x : List A) (rest : List Tok)
    → ((us : List Tok) (y : List A) (r : List Tok) → length us < length ts → p.front y us r → q.front y us r) → (comma_step item shut p).front x ts rest → (comma_step item shut q).front x ts rest
unfolding branch
comma_fronts ends item shut g p q ts x rest h f = elim (f.way) [
  | inl closed ↦ record { way = inl closed }
  | inr more ↦ elim (more.second.way) [
    | inl c ↦
        let m = c.2 in
        let l : length more.mid ≡ suc (length c.0) = rw (c.1.first) refl in
        let short : length c.0 < length ts = omega (arith, g.shorter ts more.value more.mid more.first) in
        record { way = inr (record { value = more.value; mid = more.mid; first = more.first; second = record { way = inl (c.0, c.1, record { value = m.value; mid = m.mid; first = h c.0 m.value m.mid short m.first; second = m.second }) } }) }
    | inr last ↦ record { way = inr (record { value = more.value; mid = more.mid; first = more.first; second = record { way = inr last } }) }
  ]
]

comma_shrinks : {A : Type 0} (ends : List Kind) (item : Production A) (shut : Kind) → Law ends item → Goes ends item → Shrinks (comma_step item shut)
comma_shrinks ends item shut l g = record { reads = comma_reads item shut (takes ends item l g); fronts = comma_fronts ends item shut g }

-- a comma and what closes the list differ from one another, and from what ends an item
pub commas_open : {A : Type 0} (ends inner : List Kind) (item : Production A) (shut : Kind) → Law inner item → Goes inner item → Avoids [] (shut ∷ []) item
    → is_outside shut inner ≡ true → is_outside kind.Comma inner ≡ true → is_outside shut (kind.Comma ∷ []) ≡ true → Law ends (commas item shut)
unfolding commas
commas_open {A = A} ends inner item shut l g other shuts comma apart =
    weaken ends (commas item shut) (repeat_law [] [] (comma_step item shut) (λ p. record { clear = λ ts x rest h c. tt }) step (comma_shrinks inner item shut l g))
  where
    next : Production (List A) → A → Production (List A)
    next r x = branch kind.Comma (r >>= (λ xs. yield (x ∷ xs))) (sign shut >> yield (x ∷ []))

    last : (x : A) → Production (List A)
    last x = sign shut >> yield (x ∷ [])

    step : (p : Production (List A)) → Law [] p → Avoids [] [] p → Law [] (comma_step item shut p)
    step p lp ap = branch_law [] shut (yield []) (item >>= next p) (yield_law [] [])
        (bind_open [] inner item (next p) l
        (λ x. branch_law [] kind.Comma (p >>= (λ xs. yield (x ∷ xs))) (last x)
        (bind_law [] p (λ xs. yield (x ∷ xs)) lp (λ xs. yield_law [] (x ∷ xs)))
        (bind_law [] (sign shut) (λ _. yield (x ∷ [])) (sign_law [] shut) (λ _. yield_law [] (x ∷ [])))
        (avoid_first [] (kind.Comma ∷ []) (sign shut) (λ _. yield (x ∷ [])) (avoid_sign [] (kind.Comma ∷ []) shut apart)))
        (λ x. avoid_branch [] inner kind.Comma (p >>= (λ xs. yield (x ∷ xs))) (last x) comma (avoid_first [] inner (sign shut) (λ _. yield (x ∷ [])) (avoid_sign [] inner shut shuts))))
        (avoid_first [] (shut ∷ []) item (next p) other)

pub commas_law : {A : Type 0} (ends : List Kind) (item : Production A) (shut : Kind) → Law [] item → Goes [] item → Avoids [] (shut ∷ []) item → is_outside shut (kind.Comma ∷ []) ≡ true → Law ends (commas item shut)
commas_law ends item shut l g other apart = commas_open ends [] item shut l g other refl refl apart

-- the same of at least one
pub some_commas_law : {A : Type 0} (ends inner : List Kind) (item : Production A) (shut : Kind) → Law inner item → Goes inner item → Avoids [] (shut ∷ []) item
    → is_outside shut inner ≡ true → is_outside kind.Comma inner ≡ true → is_outside shut (kind.Comma ∷ []) ≡ true → Law ends (some_commas item shut)
some_commas_law {A = A} ends inner item shut l g other shuts comma apart =
    bind_open ends inner item next l (λ x. branch_law ends kind.Comma (more x) (last x) (bind_law ends (commas item shut) (λ xs. yield (x ∷ xs)) (commas_open [] inner item shut l g other shuts comma apart) (λ xs. yield_law ends (x ∷ xs)))
    (bind_law ends (sign shut) (λ _. yield (x ∷ [])) (sign_law [] shut) (λ _. yield_law ends (x ∷ []))) (avoid_first ends (kind.Comma ∷ []) (sign shut) (λ _. yield (x ∷ [])) (avoid_sign [] (kind.Comma ∷ []) shut apart)))
    (λ x. avoid_branch ends inner kind.Comma (more x) (last x) comma (avoid_first ends inner (sign shut) (λ _. yield (x ∷ [])) (avoid_sign [] inner shut shuts)))
  where
    last : A → Production (List A)
    last x = sign shut >> yield (x ∷ [])

    more : A → Production (List A)
    more x = commas item shut >>= (λ xs. yield (x ∷ xs))

    next : A → Production (List A)
    next x = branch kind.Comma (more x) (last x)

-- ---- up to the end

end_found : {X : Type 0} (ends : List Kind) (x : X) (q : Production X) → Law ends q → (ts : List Tok) (y : X) (rest : List Tok) → at_end_at x q.read ts ≡ Ok (y, rest) → (at_end x q).front y ts rest
end_found ends x q l [] y rest e = let p = ok_parts x y [] rest e in inl (refl, sym p.1, sym p.0)
end_found ends x q l (t ∷ ts) y rest e = inr (l.found (t ∷ ts) y rest e)

end_again : {X : Type 0} (ends : List Kind) (x : X) (q : Production X) → Law ends q → Goes ends q → (ts : List Tok) (y : X) (rest : List Tok) → (at_end x q).front y ts rest → Clear ends rest → at_end_at x q.read ts ≡ Ok (y, rest)
end_again ends x q l g ts y rest (inl h) c = rw (h.0, h.1, h.2) refl
end_again ends x q l g [] y rest (inr h) c = absurd (let s = g.shorter [] y rest h in omega arith)
end_again ends x q l g (t ∷ ts) y rest (inr h) c = l.again (t ∷ ts) y rest h c

end_suffix : {X : Type 0} (ends : List Kind) (x : X) (q : Production X) → Law ends q → (ts : List Tok) (y : X) (rest : List Tok) → (at_end x q).front y ts rest → Suffix ts rest
end_suffix ends x q l ts y rest (inl h) = record { taken = []; parts = h.0 ∙ sym h.1 }
end_suffix ends x q l ts y rest (inr h) = l.suffix ts y rest h

at_end_goes : {X : Type 0} (x : X) (read : List Tok → Outcome X) (t : Tok) (ts us : List Tok) → ahead (t ∷ ts) ≡ ahead us → at_end_at x read us ≡ read us
at_end_goes x read t ts us e = let a = ahead_is t ts us e in rw (a.2) refl

end_steady : {X : Type 0} (ends : List Kind) (x : X) (q : Production X) → Law ends q → (ts : List Tok) (y : X) (rest : List Tok) → at_end_at x q.read ts ≡ Ok (y, rest) → Moves ts rest (λ us next. at_end_at x q.read us ≡ Ok (y, next))
end_steady ends x q l [] y rest e =
    let p = ok_parts x y [] rest e in
    record { taken = []; parts = p.1; ever = λ next same. rw (ahead_none next (ap ahead p.1 ∙ same), p.0) refl }
end_steady ends x q l (t ∷ ts) y rest e =
    let m = l.steady (t ∷ ts) y rest e in
    record { taken = m.taken; parts = m.parts; ever = λ next same. at_end_goes x q.read t ts (m.taken ++ next) (ap ahead m.parts ∙ ahead_more m.taken rest next same) ∙ m.ever next same }

end_stuck : {X : Type 0} (ends : List Kind) (x : X) (q : Production X) → Law ends q → (ts : List Tok) (e : Fault) → at_end_at x q.read ts ≡ Err e → Stuck (at_end_at x q.read) ts e
end_stuck ends x q l [] e h = absurd cc
end_stuck ends x q l (t ∷ ts) e h =
    let s = l.stuck (t ∷ ts) e h in
    record { place = s.place; left = s.left; moves = record { taken = s.moves.taken; parts = s.moves.parts; ever = λ next same. at_end_goes x q.read t ts (s.moves.taken ++ next) (ap ahead s.moves.parts ∙ ahead_more s.moves.taken s.place next same) ∙ s.moves.ever next same } }

pub at_end_law : {X : Type 0} (ends : List Kind) (x : X) (q : Production X) → Law ends q → Goes ends q → Law ends (at_end x q)
at_end_law ends x q l g = record { found = end_found ends x q l; again = end_again ends x q l g; suffix = end_suffix ends x q l; steady = end_steady ends x q l; stuck = end_stuck ends x q l }

all_reads : {A : Type 0} (item : Production A) → Takes item → ReadsFurther (all_step item)
all_reads item s p q [] h = refl
all_reads {A = A} item s p q (t ∷ ts) h = on (item.read (t ∷ ts)) refl
  where
    on : (o : Outcome A) → item.read (t ∷ ts) ≡ o → and_then o (λ x. (p >>= (λ xs. yield (x ∷ xs))).read) ≡ and_then o (λ x. (q >>= (λ xs. yield (x ∷ xs))).read)
    on (Ok r) e = rw (h r.1 (s (t ∷ ts) r.0 r.1 e)) refl
    on (Err e) i = refl

all_fronts : {A : Type 0} (item : Production A) → Goes [] item → (p q : Production (List A)) (ts : List Tok) (x : List A) (rest : List Tok)
    → ((us : List Tok) (y : List A) (r : List Tok) → length us < length ts → p.front y us r → q.front y us r) → (all_step item p).front x ts rest → (all_step item q).front x ts rest
all_fronts item g p q ts x rest h f = elim f [
  | inl closed ↦ inl closed
  | inr more ↦
      let m = more.second in
      inr (record { value = more.value; mid = more.mid; first = more.first; second = record { value = m.value; mid = m.mid; first = h more.mid m.value m.mid (g.shorter ts more.value more.mid more.first) m.first; second = m.second } })
]

pub all_law : {A : Type 0} (ends : List Kind) (item : Production A) → Law [] item → Goes [] item → Law ends (all item)
unfolding all
all_law {A = A} ends item l g = weaken ends (all item) (repeat_law [] [] (all_step item) (λ p. record { clear = λ ts x rest h c. tt }) step (record { reads = all_reads item (takes [] item l g); fronts = all_fronts item g }))
  where
    step : (p : Production (List A)) → Law [] p → Avoids [] [] p → Law [] (all_step item p)
    step p lp ap =
        let more = bind_law [] item (λ x. p >>= (λ xs. yield (x ∷ xs))) l (λ x. bind_law [] p (λ xs. yield (x ∷ xs)) lp (λ xs. yield_law [] (x ∷ xs))) in
        at_end_law [] [] (item >>= (λ x. p >>= (λ xs. yield (x ∷ xs)))) more
        (goes_first [] item (λ x. p >>= (λ xs. yield (x ∷ xs))) g (λ x. bind_law [] p (λ xs. yield (x ∷ xs)) lp (λ xs. yield_law [] (x ∷ xs))))

-- ---- as many as begin with a sign

many_reads : {A : Type 0} (k : Kind) (item : Production A) → Takes item → ReadsFurther (many_step k item)
unfolding branch
many_reads {A = A} k item t p q ts h = elim (cases_Bool (sees k ts)) [
  | inl seen ↦ rw seen (on (item.read (after k ts)) refl seen)
  | inr unseen ↦ rw unseen refl
]
  where
    on : (o : Outcome A) → item.read (after k ts) ≡ o → sees k ts ≡ true → and_then o (λ x. (p >>= (λ xs. yield (x ∷ xs))).read) ≡ and_then o (λ x. (q >>= (λ xs. yield (x ∷ xs))).read)
    on (Ok r) e seen = rw (h r.1 (omega (arith, t (after k ts) r.0 r.1 e, after_shorter k ts seen))) refl
    on (Err e) i seen = refl

many_fronts : {A : Type 0} (k : Kind) (item : Production A) → Goes [] item → (p q : Production (List A)) (ts : List Tok) (x : List A) (rest : List Tok)
    → ((us : List Tok) (y : List A) (r : List Tok) → length us < length ts → p.front y us r → q.front y us r) → (many_step k item p).front x ts rest → (many_step k item q).front x ts rest
unfolding branch
many_fronts k item g p q ts x rest h f = elim (f.way) [
  | inl c ↦
      let more = c.2 in
      let m = more.second in
      let l : length ts ≡ suc (length c.0) = rw (c.1.first) refl in
      let short : length more.mid < length ts = omega (arith, g.shorter c.0 more.value more.mid more.first) in
      record { way = inl (c.0, c.1, record { value = more.value; mid = more.mid; first = more.first; second = record { value = m.value; mid = m.mid; first = h more.mid m.value m.mid short m.first; second = m.second } }) }
  | inr ended ↦ record { way = inr ended }
]

-- what ends it must not be what another begins with
pub many_law : {A : Type 0} (k : Kind) (item : Production A) → same_kind k k ≡ true → Law [] item → Goes [] item → Law (k ∷ []) (many k item)
unfolding many
many_law {A = A} k item self l g =
    repeat_law (k ∷ []) [] (many_step k item) (λ p. record { clear = λ ts x rest h c. tt }) step (record { reads = many_reads k item (takes [] item l g); fronts = many_fronts k item g })
  where
    step : (p : Production (List A)) → Law (k ∷ []) p → Avoids (k ∷ []) [] p → Law (k ∷ []) (many_step k item p)
    step p lp ap = branch_law (k ∷ []) k (item >>= (λ x. p >>= (λ xs. yield (x ∷ xs)))) (yield [])
        (bind_law (k ∷ []) item (λ x. p >>= (λ xs. yield (x ∷ xs))) l (λ x. bind_open (k ∷ []) (k ∷ []) p (λ xs. yield (x ∷ xs)) lp (λ xs. yield_law (k ∷ []) (x ∷ xs)) (λ xs. record { clear = λ ts y rest h c. rw (h.0) c })))
        (yield_law (k ∷ []) []) (record { clear = λ ts y rest h c. rw (h.0) c })

pub many_avoids : {A : Type 0} (ends begins : List Kind) (k : Kind) (item : Production A) → is_outside k begins ≡ true → is_within begins ends ≡ true → Avoids ends begins (many k item)
unfolding many
many_avoids ends begins k item out within = avoid_turns ends begins (many_step k item) (λ p. avoid_branch ends begins k _ (yield []) out (avoid_yield ends begins [] within))

pub next_then_law : {A B : Type 0} (ends inner : List Kind) (n : Next A) (g : A → Production B) → NextLaw inner n → ((a : A) → Law ends (g a)) → ((a : A) → Avoids ends inner (g a)) → NextLaw ends (next_then n g)
next_then_law ends inner none g l lg av = tt
next_then_law ends inner (goes p) g l lg av = bind_open ends inner p g l lg av

-- the first turn, and the rest
pub repeat_turn : {X : Type 0} (step : Production X → Production X) → ReadsFurther step → (ts : List Tok) → (repeat step).read ts ≡ (step (repeat step)).read ts
unfolding turns
repeat_turn step reads ts = reads (turns step (length ts)) (repeat step) ts (λ us l. same_reads step reads (length ts) (suc (length us)) us (omega arith) (omega arith))

pub comma_turn : {A : Type 0} (item : Production A) (shut : Kind) → Takes item → (ts : List Tok) → (commas item shut).read ts ≡ (comma_step item shut (commas item shut)).read ts
unfolding commas
comma_turn item shut t ts = repeat_turn (comma_step item shut) (comma_reads item shut t) ts

pub until_turn : {A : Type 0} (item : Production A) (shut : Kind) → Takes item → (ts : List Tok) → (until item shut).read ts ≡ (until_step item shut (until item shut)).read ts
unfolding until
until_turn item shut t ts = repeat_turn (until_step item shut) (until_reads item shut t) ts

pub all_turn : {A : Type 0} (item : Production A) → Takes item → (ts : List Tok) → (all item).read ts ≡ (all_step item (all item)).read ts
unfolding all
all_turn item t ts = repeat_turn (all_step item) (all_reads item t) ts

pub many_turn : {A : Type 0} (k : Kind) (item : Production A) → Takes item → (ts : List Tok) → (many k item).read ts ≡ (many_step k item (many k item)).read ts
unfolding many
many_turn k item t ts = repeat_turn (many_step k item) (many_reads k item t) ts
