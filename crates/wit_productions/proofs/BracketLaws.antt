-- What a production says of the brackets that it reads, and of the place where it stops.
use Rattle.std.proofs.Common.{◌≡◌, ◌⊎◌, ℕ, zero, suc, ◌+◌, ◌≤◌, Bool, true, false, List, [], ◌∷◌, ◌++◌, length, Some, None, Result, Ok, Err, refl, sym, ap, ◌∙◌, inl, inr, arith, append_assoc}
use Rattle.std.specs.Prelude.{IsOk}
use Rattle.semver.specs.Parse.{version_parts}
use Rattle.std.proofs.lemmas.Bool.{cases_Bool}
use Rattle.wit_productions.specs.declared.fault.Fault.{Fault}
use Rattle.wit_tokens.specs.Passed.wit_words-declared-fault-Rule.{Rule}
use Rattle.wit_tokens.specs.Passed.wit_words-declared-fault-Rule-TheVariants as rules
use Rattle.wit_tokens.specs.Passed.wit_words-declared-source_map-Span.{Span}
use Rattle.wit_tokens.specs.Passed.wit_words-declared-token-Kind.{Kind}
use Rattle.wit_tokens.specs.Passed.wit_words-declared-token-Kind-TheVariants as kind
use Rattle.wit_productions.specs.Broken.{IsBadNumber, count}
use Rattle.wit_tokens.specs.Lex.{Text}
use Rattle.wit_productions.specs.Place.{ahead}
use Rattle.wit_productions.specs.Production.{Outcome, between, extent, located, Production, wrong, ◌>>=◌, ◌>>◌, yield, refuse, is_kind, sees, after, Stands, sign, one_at, one, spanned, slice_at, slice, docs_at, documented, branch, optional, Next, none, goes, leads_on, next_at, by_at, by, or_at, by_or_at, by_or, turns, repeat, comma_step, commas, until_step, until, many_step, many, some_commas, at_end_at, at_end, all_step, all, finish, next_then}
use Rattle.wit_tokens.specs.Passed.wit_words-Slice.{Slice}
use Rattle.wit_tokens.specs.Passed.wit_words-Token.{What, Tok, plain, number, version, ident, explicit, same_kind}
use Rattle.wit_productions.specs.TypeGrammar.{begins_type}
use Rattle.wit_productions.proofs.Laws.{bind_ok, bind_err, ok_parts, err_is, judged_err, kind_is, sees_is, after_unseen, one_law, slice_law, sign_law, spanned_err}
use Rattle.wit_tokens.proofs.Passed.wit_words-SameKinds.{same_self}

-- ---- counts

abbrev pub opens : List Tok → ℕ
opens = count kind.LessThan

abbrev pub closes : List Tok → ℕ
closes = count kind.GreaterThan

is_self : (k : Kind) (w : What) → w ≡ plain k → is_kind k w ≡ true
is_self k w e = rw e (same_self k)

is_other : (k j : Kind) (w : What) → w ≡ plain k → same_kind k j ≡ false → is_kind j w ≡ false
is_other k j w e other = rw e other

count_one : (k : Kind) (t : Tok) (ts : List Tok) → is_kind k t.what ≡ true → count k (t ∷ ts) ≡ suc (count k ts)
count_one k t ts e = rw e refl

count_none : (k : Kind) (t : Tok) (ts : List Tok) → is_kind k t.what ≡ false → count k (t ∷ ts) ≡ count k ts
count_none k t ts e = rw e refl

pub count_append : (k : Kind) (a b : List Tok) → count k (a ++ b) ≡ count k a + count k b
count_append k [] b = omega arith
count_append k (t ∷ a) b = elim (cases_Bool (is_kind k t.what)) [
  | inl same ↦ omega (arith, count_one k t (a ++ b) same, count_one k t a same, count_append k a b)
  | inr other ↦ omega (arith, count_none k t (a ++ b) other, count_none k t a other, count_append k a b)
]

-- ---- what is said of a place, where so many brackets are open in front of ts

pub record Deep (o : ℕ) (ts place : List Tok) : Type 0 where
  pub first : What
  pub stands : ahead place ≡ Some first
  pub begins : begins_type first ≡ true
  pub enclosed : closes ts + opens place + 101 ≤ opens ts + closes place + o

-- a sign that asks for a version stands right in front of the place, and no version stands there
pub record Asked (ts place : List Tok) : Type 0 where
  pub front : List Tok
  pub asks : Tok
  pub parts : ts ≡ front ++ asks ∷ place
  pub sign : (asks.what ≡ plain kind.At) ⊎ (asks.what ≡ plain kind.Equals)
  pub none : (s : Text) → ahead place ≡ Some (version s) → IsOk (version_parts s) → ⊥

abbrev pub Said : ℕ → Rule → List Tok → List Tok → Type 0
Said o rules.Unexpected ts place = Unit {0}
Said o rules.BadVersion ts place = Asked ts place
Said o rules.BadNumber ts place = IsBadNumber place
Said o rules.TooDeep ts place = Deep o ts place
Said o _ ts place = ⊥

pub record Break (o : ℕ) (ts : List Tok) (e : Fault) : Type 0 where
  pub taken : List Tok
  pub place : List Tok
  pub parts : ts ≡ taken ++ place
  pub left : length place ≡ e.left
  pub says : Said o e.rule ts place

-- between the two places c brackets more are closed than opened
pub record Level (c : ℕ) (ts rest : List Tok) : Type 0 where
  pub taken : List Tok
  pub parts : ts ≡ taken ++ rest
  pub signs : opens ts + closes rest + c ≡ closes ts + opens rest

-- where o brackets are open, what it reads closes c more than it opens
pub record Tells {X : Type 0} (o c : ℕ) (p : Production X) : Type 0 where
  pub level : (ts : List Tok) (x : X) (rest : List Tok) → p.read ts ≡ Ok (x, rest) → Level c ts rest
  pub breaks : (ts : List Tok) (e : Fault) → p.read ts ≡ Err e → Break o ts e

said_on : (o inner : ℕ) (r : Rule) (taken ts mid place : List Tok) → ts ≡ taken ++ mid → closes ts + opens mid + inner ≤ opens ts + closes mid + o → Said inner r mid place → Said o r ts place
said_on o inner rules.Unexpected taken ts mid place parts l s = tt
said_on o inner rules.BadVersion taken ts mid place parts l s = record {
  front = taken ++ s.front;
  asks = s.asks;
  parts = parts ∙ ap (λ (t : List Tok). taken ++ t) s.parts ∙ sym (append_assoc taken s.front (s.asks ∷ place));
  sign = s.sign;
  none = s.none;
}
said_on o inner rules.BadNumber taken ts mid place parts l s = s
said_on o inner rules.TooDeep taken ts mid place parts l s = record { first = s.first; stands = s.stands; begins = s.begins; enclosed = omega (arith, l, s.enclosed) }
said_on o inner _ taken ts mid place parts l s = absurd s

pub break_on : (o inner : ℕ) (taken ts mid : List Tok) (e : Fault) → ts ≡ taken ++ mid → closes ts + opens mid + inner ≤ opens ts + closes mid + o → Break inner mid e → Break o ts e
break_on o inner taken ts mid e parts l b = record {
  taken = taken ++ b.taken;
  place = b.place;
  parts = parts ∙ ap (λ (t : List Tok). taken ++ t) b.parts ∙ sym (append_assoc taken b.taken b.place);
  left = b.left;
  says = said_on o inner e.rule taken ts mid b.place parts l b.says;
}

pub level_on : (c d both : ℕ) (ts mid rest : List Tok) → c + d ≡ both → Level c ts mid → Level d mid rest → Level both ts rest
level_on c d both ts mid rest e one two = record {
  taken = one.taken ++ two.taken;
  parts = one.parts ∙ ap (λ (t : List Tok). one.taken ++ t) two.parts ∙ sym (append_assoc one.taken two.taken rest);
  signs = omega (arith, e, one.signs, two.signs);
}

pub said_plain : (o : ℕ) (r : Rule) (ts place : List Tok) → r ≡ rules.Unexpected → Said o r ts place
said_plain o r ts place e = rw e tt

-- something else had to stand at the front
pub wrong_break : {X : Type 0} (o : ℕ) (ts : List Tok) (e : Fault) → wrong {X = X} rules.Unexpected ts ≡ Err e → Break o ts e
wrong_break {X = X} o ts e h =
    let w = err_is {A = X} (record { rule = rules.Unexpected; left = length ts }) e h in
    record { taken = []; place = ts; parts = refl; left = ap (λ (f : Fault). f.left) w; says = said_plain o e.rule ts ts (sym (ap (λ (f : Fault). f.rule) w)) }

-- ---- single ones

level_none : (t : Tok) (ts rest : List Tok) → ts ≡ t ∷ rest → is_kind kind.LessThan t.what ≡ false → is_kind kind.GreaterThan t.what ≡ false → Level 0 ts rest
level_none t ts rest e less greater =
    let a : opens ts ≡ opens rest = ap opens e ∙ count_none kind.LessThan t rest less in
    let b : closes ts ≡ closes rest = ap closes e ∙ count_none kind.GreaterThan t rest greater in
    record { taken = t ∷ []; parts = e; signs = omega (arith, a, b) }

pub tells_yield : {X : Type 0} (o : ℕ) (x : X) → Tells o 0 (yield x)
tells_yield o x = record {
  level = λ ts y rest e. let q = ok_parts x y ts rest e in record { taken = []; parts = q.1; signs = let a : opens ts ≡ opens rest = ap opens q.1 in let b : closes ts ≡ closes rest = ap closes q.1 in omega (arith, a, b) };
  breaks = λ ts e h. absurd cc;
}

one_break : {X : Type 0} (o : ℕ) (judge : What → Result X Rule) → ((t : Tok) (ts : List Tok) (r : Rule) → judge t.what ≡ Err r → Said o r (t ∷ ts) (t ∷ ts)) → (ts : List Tok) (e : Fault) → one_at judge ts ≡ Err e → Break o ts e
one_break {X = X} o judge says [] e h = wrong_break {X = X} o [] e h
one_break o judge says (t ∷ ts) e h =
    let w = judged_err (t ∷ ts) (judge t.what) ts e h in
    record { taken = []; place = t ∷ ts; parts = refl; left = w.1; says = says t ts e.rule w.0 }

no_sign : {X : Type 0} (judge : What → Result X Rule) (r : Kind → Rule) → ((k : Kind) → judge (plain k) ≡ Err (r k)) → (k : Kind) (w : What) (x : X) → judge w ≡ Ok x → is_kind k w ≡ false
no_sign judge r nowhere k (plain j) x e = absurd (let bad = nowhere j in cc)
no_sign judge r nowhere k (number s) x e = refl
no_sign judge r nowhere k (version s) x e = refl
no_sign judge r nowhere k (ident s) x e = refl
no_sign judge r nowhere k (explicit s) x e = refl

-- a token that is judged by itself, and no sign or keyword
pub tells_one : {X : Type 0} (o : ℕ) (judge : What → Result X Rule) (r : Kind → Rule) → ((k : Kind) → judge (plain k) ≡ Err (r k)) → ((t : Tok) (ts : List Tok) (r : Rule) → judge t.what ≡ Err r → Said o r (t ∷ ts) (t ∷ ts)) → Tells o 0 (one judge)
tells_one o judge r nowhere says = record {
  level = λ ts x rest e.
      let h = (one_law [] judge).found ts x rest e in
      level_none h.token ts rest h.first (no_sign judge r nowhere kind.LessThan h.token.what x h.good) (no_sign judge r nowhere kind.GreaterThan h.token.what x h.good);
  breaks = one_break o judge says;
}

-- the same with its place
pub slice_level : (judge : What → Result (List ℕ) Rule) (r : Rule) → ((k : Kind) → judge (plain k) ≡ Err r) → (ts : List Tok) (x : Slice) (rest : List Tok) → slice_at judge ts ≡ Ok (x, rest) → Level 0 ts rest
slice_level judge r nowhere ts x rest e =
    let h = (slice_law [] judge).found ts x rest e in
    level_none h.token ts rest h.first (no_sign judge (λ k. r) nowhere kind.LessThan h.token.what x.text h.good) (no_sign judge (λ k. r) nowhere kind.GreaterThan h.token.what x.text h.good)

pub tells_slice : (o : ℕ) (judge : What → Result (List ℕ) Rule) → ((k : Kind) → judge (plain k) ≡ Err rules.Unexpected) → ((w : What) (r : Rule) → judge w ≡ Err r → r ≡ rules.Unexpected) → Tells o 0 (slice judge)
tells_slice o judge nowhere plainly = record { level = slice_level judge rules.Unexpected nowhere; breaks = breaks }
  where
    breaks : (ts : List Tok) (e : Fault) → slice_at judge ts ≡ Err e → Break o ts e
    breaks [] e h = wrong_break {X = Slice} o [] e h
    breaks (t ∷ ts) e h =
        let w = judged_err (t ∷ ts) (spanned t.span (judge t.what)) ts e h in
        record { taken = []; place = t ∷ ts; parts = refl; left = w.1; says = said_plain o e.rule (t ∷ ts) (t ∷ ts) (plainly t.what e.rule (spanned_err t.span (judge t.what) e.rule w.0)) }

tells_refuse : {X : Type 0} (o c : ℕ) → Tells o c (refuse {X = X} rules.Unexpected)
tells_refuse {X = X} o c = record { level = λ ts x rest e. absurd cc; breaks = λ ts e h. wrong_break {X = X} o ts e h }

-- ---- one after the other

pub tells_bind : {A B : Type 0} (o c : ℕ) (f : Production A) (g : A → Production B) → Tells o 0 f → ((a : A) → Tells o c (g a)) → Tells o c (f >>= g)
tells_bind o c f g tf tg = record {
  level = λ ts y rest e.
      let p = bind_ok (f.read ts) (λ a. (g a).read) (y, rest) e in
      level_on 0 c c ts p.0.1 rest (omega arith) (tf.level ts p.0.0 p.0.1 p.1) ((tg p.0.0).level p.0.1 y rest p.2);
  breaks = λ ts e h. elim (bind_err (f.read ts) (λ a. (g a).read) e h) [
    | inl first ↦ tf.breaks ts e first
    | inr p ↦
        let l = tf.level ts p.0.0 p.0.1 p.1 in
        break_on o o l.taken ts p.0.1 e l.parts (omega (arith, l.signs)) ((tg p.0.0).breaks p.0.1 e p.2)
  ];
}

-- a value made of what is read
pub tells_map : {A B : Type 0} (o c : ℕ) (f : Production A) (g : A → B) → Tells o c f → Tells o c (f >>= (λ x. yield (g x)))
tells_map o c f g tf = record {
  level = λ ts y rest e.
      let p = bind_ok (f.read ts) (λ a. (yield (g a)).read) (y, rest) e in
      level_on c 0 c ts p.0.1 rest (omega arith) (tf.level ts p.0.0 p.0.1 p.1) ((tells_yield o (g p.0.0)).level p.0.1 y rest p.2);
  breaks = λ ts e h. elim (bind_err (f.read ts) (λ a. (yield (g a)).read) e h) [
    | inl first ↦ tf.breaks ts e first
    | inr p ↦ absurd (let bad = p.2 in cc)
  ];
}

pub tells_documented : {A : Type 0} (o c : ℕ) (p : Production A) → Tells o c p → Tells o c (documented p)
unfolding documented
tells_documented {A = A} o c p t = record {
  level = λ ts y rest e.
      let q = bind_ok (p.read ts) (with_docs ts) (y, rest) e in
      level_on c 0 c ts q.0.1 rest (omega arith) (t.level ts q.0.0 q.0.1 q.1) ((tells_yield o (docs_at ts, q.0.0)).level q.0.1 y rest q.2);
  breaks = λ ts e h. elim (bind_err (p.read ts) (with_docs ts) e h) [
    | inl first ↦ t.breaks ts e first
    | inr q ↦ absurd (let bad = q.2 in cc)
  ];
}
  where
    with_docs : List Tok → A → List Tok → Outcome (List Slice × A)
    with_docs ts x rest = Ok ((docs_at ts, x), rest)

pub tells_located : {A : Type 0} (o c : ℕ) (p : Production A) → Tells o c p → Tells o c (located p)
unfolding located
tells_located {A = A} o c p t = record {
  level = λ ts y rest e.
      let q = bind_ok (p.read ts) (with_place ts) (y, rest) e in
      level_on c 0 c ts q.0.1 rest (omega arith) (t.level ts q.0.0 q.0.1 q.1) ((tells_yield o (extent (between ts q.0.1), q.0.0)).level q.0.1 y rest q.2);
  breaks = λ ts e h. elim (bind_err (p.read ts) (with_place ts) e h) [
    | inl first ↦ t.breaks ts e first
    | inr q ↦ absurd (let bad = q.2 in cc)
  ];
}
  where
    with_place : List Tok → A → List Tok → Outcome (Span × A)
    with_place ts x rest = Ok ((extent (between ts rest), x), rest)

-- ---- behind a sign or keyword

pub record Behind {X : Type 0} (o c : ℕ) (k : Kind) (p : Production X) : Type 0 where
  pub level : (ts mid : List Tok) (x : X) (rest : List Tok) → Stands k ts mid → p.read mid ≡ Ok (x, rest) → Level c ts rest
  pub breaks : (ts mid : List Tok) (e : Fault) → Stands k ts mid → p.read mid ≡ Err e → Break o ts e

pub stands_level : (k : Kind) (ts mid : List Tok) → Stands k ts mid → same_kind k kind.LessThan ≡ false → same_kind k kind.GreaterThan ≡ false → Level 0 ts mid
stands_level k ts mid s less greater = level_none s.token ts mid s.first (is_other k kind.LessThan s.token.what s.is less) (is_other k kind.GreaterThan s.token.what s.is greater)

pub behind_other : {X : Type 0} (o c : ℕ) (k : Kind) (p : Production X) → same_kind k kind.LessThan ≡ false → same_kind k kind.GreaterThan ≡ false → Tells o c p → Behind o c k p
behind_other o c k p less greater t = record {
  level = λ ts mid x rest s e. level_on 0 c c ts mid rest (omega arith) (stands_level k ts mid s less greater) (t.level mid x rest e);
  breaks = λ ts mid e s h. let l = stands_level k ts mid s less greater in break_on o o l.taken ts mid e l.parts (omega (arith, l.signs)) (t.breaks mid e h);
}

pub behind_bind : {A B : Type 0} (o c : ℕ) (k : Kind) (f : Production A) (g : A → Production B) → Behind o 0 k f → ((a : A) → Tells o c (g a)) → Behind o c k (f >>= g)
behind_bind o c k f g bf tg = record {
  level = λ ts mid y rest s e.
      let p = bind_ok (f.read mid) (λ a. (g a).read) (y, rest) e in
      level_on 0 c c ts p.0.1 rest (omega arith) (bf.level ts mid p.0.0 p.0.1 s p.1) ((tg p.0.0).level p.0.1 y rest p.2);
  breaks = λ ts mid e s h. elim (bind_err (f.read mid) (λ a. (g a).read) e h) [
    | inl first ↦ bf.breaks ts mid e s first
    | inr p ↦
        let l = bf.level ts mid p.0.0 p.0.1 s p.1 in
        break_on o o l.taken ts p.0.1 e l.parts (omega (arith, l.signs)) ((tg p.0.0).breaks p.0.1 e p.2)
  ];
}

opening : (ts mid : List Tok) → Stands kind.LessThan ts mid → (opens ts ≡ suc (opens mid)) × (closes ts ≡ closes mid)
unfolding same_kind
opening ts mid s = (ap opens s.first ∙ count_one kind.LessThan s.token mid (is_self kind.LessThan s.token.what s.is), ap closes s.first ∙ count_none kind.GreaterThan s.token mid (is_other kind.LessThan kind.GreaterThan s.token.what s.is refl))

closing : (ts mid : List Tok) → Stands kind.GreaterThan ts mid → (closes ts ≡ suc (closes mid)) × (opens ts ≡ opens mid)
unfolding same_kind
closing ts mid s = (ap closes s.first ∙ count_one kind.GreaterThan s.token mid (is_self kind.GreaterThan s.token.what s.is), ap opens s.first ∙ count_none kind.LessThan s.token mid (is_other kind.GreaterThan kind.LessThan s.token.what s.is refl))

-- behind a bracket that opens, one more is open
pub behind_open : {X : Type 0} (o c : ℕ) (p : Production X) → Tells (suc o) (suc c) p → Behind o c kind.LessThan p
behind_open o c p t = record {
  level = λ ts mid x rest s e.
      let l = t.level mid x rest e in
      let b = opening ts mid s in
      record { taken = s.token ∷ l.taken; parts = s.first ∙ ap (λ (us : List Tok). s.token ∷ us) l.parts; signs = omega (arith, b.0, b.1, l.signs) };
  breaks = λ ts mid e s h. let b = opening ts mid s in break_on o (suc o) (s.token ∷ []) ts mid e s.first (omega (arith, b.0, b.1)) (t.breaks mid e h);
}

pub behind_close : {X : Type 0} (o : ℕ) (x : X) → Behind o 1 kind.GreaterThan (yield x)
behind_close o x = record {
  level = λ ts mid y rest s e.
      let l = (tells_yield o x).level mid y rest e in
      let b = closing ts mid s in
      record { taken = s.token ∷ l.taken; parts = s.first ∙ ap (λ (us : List Tok). s.token ∷ us) l.parts; signs = omega (arith, b.0, b.1, l.signs) };
  breaks = λ ts mid e s h. absurd cc;
}

pub tells_branch : {X : Type 0} (o c : ℕ) (k : Kind) (p q : Production X) → Behind o c k p → Tells o c q → Tells o c (branch k p q)
unfolding branch
tells_branch o c k p q b t = record {
  level = λ ts x rest e. elim (cases_Bool (sees k ts)) [
    | inl seen ↦ b.level ts (after k ts) x rest (sees_is k ts seen) (rw seen at e)
    | inr unseen ↦ t.level ts x rest (rw unseen at e)
  ];
  breaks = λ ts e h. elim (cases_Bool (sees k ts)) [
    | inl seen ↦ b.breaks ts (after k ts) e (sees_is k ts seen) (rw seen at h)
    | inr unseen ↦ t.breaks ts e (rw unseen at h)
  ];
}

sign_break : (o : ℕ) (k : Kind) (ts : List Tok) (e : Fault) → (sign k).read ts ≡ Err e → Break o ts e
unfolding sign
sign_break o k ts e h = elim (cases_Bool (sees k ts)) [
  | inl seen ↦ absurd (let bad = rw seen at h in cc)
  | inr unseen ↦ wrong_break {X = Unit {0}} o ts e (rw (unseen, after_unseen k ts unseen) at h)
]

stands_of : (k : Kind) (ts : List Tok) (u : Unit {0}) (rest : List Tok) → (sign k).read ts ≡ Ok (u, rest) → Stands k ts rest
unfolding sign
stands_of k ts u rest e = (sign_law [] k).found ts u rest e

pub tells_sign : {X : Type 0} (o c : ℕ) (k : Kind) (p : Production X) → Behind o c k p → Tells o c (sign k >> p)
tells_sign o c k p b = record {
  level = λ ts x rest e.
      let q = bind_ok ((sign k).read ts) (λ _. p.read) (x, rest) e in
      b.level ts q.0.1 x rest (stands_of k ts q.0.0 q.0.1 q.1) q.2;
  breaks = λ ts e h. elim (bind_err ((sign k).read ts) (λ _. p.read) e h) [
    | inl first ↦ sign_break o k ts e first
    | inr q ↦ b.breaks ts q.0.1 e (stands_of k ts q.0.0 q.0.1 q.1) q.2
  ];
}

pub tells_sign_other : (o : ℕ) (k : Kind) → same_kind k kind.LessThan ≡ false → same_kind k kind.GreaterThan ≡ false → Tells o 0 (sign k)
tells_sign_other o k less greater = record { level = λ ts u rest e. stands_level k ts rest (stands_of k ts u rest e) less greater; breaks = sign_break o k }

-- ---- by the next token

abbrev pub NextTells : {X : Type 0} → ℕ → ℕ → Next X → Type 0
NextTells o c none = Unit {0}
NextTells o c (goes p) = Tells o c p

no_lead : (a b : Bool) → a ≡ true → b ≡ false → a ≡ b → ⊥
no_lead a b e f same = absurd cc

-- a bracket leads nowhere
module _ {X : Type 0} (o c : ℕ) (table : What → Next X) (less : leads_on (table (plain kind.LessThan)) ≡ false) (greater : leads_on (table (plain kind.GreaterThan)) ≡ false) (l : (t : What) → NextTells o c (table t)) where
  no_bracket : (k : Kind) (w : What) → leads_on (table (plain k)) ≡ false → leads_on (table w) ≡ true → is_kind k w ≡ false
  no_bracket k w nowhere leads = elim (cases_Bool (is_kind k w)) [
    | inl same ↦ absurd (no_lead (leads_on (table w)) (leads_on (table (plain k))) leads nowhere (ap (λ v. leads_on (table v)) (kind_is k w same)))
    | inr other ↦ other
  ]

  token_level : (t : Tok) (ts : List Tok) → leads_on (table t.what) ≡ true → Level 0 (t ∷ ts) ts
  token_level t ts leads = level_none t (t ∷ ts) ts refl (no_bracket kind.LessThan t.what less leads) (no_bracket kind.GreaterThan t.what greater leads)

  go_level : (t : Tok) (ts : List Tok) (p : Production X) → Tells o c p → leads_on (table t.what) ≡ true → (x : X) (rest : List Tok) → p.read ts ≡ Ok (x, rest) → Level c (t ∷ ts) rest
  go_level t ts p tp leads x rest e = level_on 0 c c (t ∷ ts) ts rest (omega arith) (token_level t ts leads) (tp.level ts x rest e)

  go_break : (t : Tok) (ts : List Tok) (p : Production X) → Tells o c p → leads_on (table t.what) ≡ true → (e : Fault) → p.read ts ≡ Err e → Break o (t ∷ ts) e
  go_break t ts p tp leads e h = let v = token_level t ts leads in break_on o o (t ∷ []) (t ∷ ts) ts e refl (omega (arith, v.signs)) (tp.breaks ts e h)

  by_level : (ts : List Tok) (x : X) (rest : List Tok) → by_at table ts ≡ Ok (x, rest) → Level c ts rest
  by_level [] x rest e = absurd cc
  by_level (t ∷ ts) x rest e = on (table t.what) (l t.what) refl e
    where
      on : (n : Next X) → NextTells o c n → leads_on (table t.what) ≡ leads_on n → next_at (t ∷ ts) n ts ≡ Ok (x, rest) → Level c (t ∷ ts) rest
      on none tn same e = absurd cc
      on (goes p) tp same e = go_level t ts p tp same x rest e

  by_break : (ts : List Tok) (e : Fault) → by_at table ts ≡ Err e → Break o ts e
  by_break [] e h = wrong_break {X = X} o [] e h
  by_break (t ∷ ts) e h = on (table t.what) (l t.what) refl h
    where
      on : (n : Next X) → NextTells o c n → leads_on (table t.what) ≡ leads_on n → next_at (t ∷ ts) n ts ≡ Err e → Break o (t ∷ ts) e
      on none tn same h = wrong_break {X = X} o (t ∷ ts) e h
      on (goes p) tp same h = go_break t ts p tp same e h

  pub tells_by : Tells o c (by table)
  tells_by = record { level = by_level; breaks = by_break }

  module _ (q : Production X) (tq : Tells o c q) where
    or_level : (ts : List Tok) (x : X) (rest : List Tok) → by_or_at table q.read ts ≡ Ok (x, rest) → Level c ts rest
    or_level [] x rest e = tq.level [] x rest e
    or_level (t ∷ ts) x rest e = on (table t.what) (l t.what) refl e
      where
        on : (n : Next X) → NextTells o c n → leads_on (table t.what) ≡ leads_on n → or_at (t ∷ ts) q.read n ts ≡ Ok (x, rest) → Level c (t ∷ ts) rest
        on none tn same e = tq.level (t ∷ ts) x rest e
        on (goes p) tp same e = go_level t ts p tp same x rest e

    or_break : (ts : List Tok) (e : Fault) → by_or_at table q.read ts ≡ Err e → Break o ts e
    or_break [] e h = tq.breaks [] e h
    or_break (t ∷ ts) e h = on (table t.what) (l t.what) refl h
      where
        on : (n : Next X) → NextTells o c n → leads_on (table t.what) ≡ leads_on n → or_at (t ∷ ts) q.read n ts ≡ Err e → Break o (t ∷ ts) e
        on none tn same h = tq.breaks (t ∷ ts) e h
        on (goes p) tp same h = go_break t ts p tp same e h

    pub tells_by_or : Tells o c (by_or table q)
    unfolding by_or
    tells_by_or = record { level = or_level; breaks = or_break }

pub tells_next_then : {A B : Type 0} (o c : ℕ) (n : Next A) (g : A → Production B) → NextTells o 0 n → ((a : A) → Tells o c (g a)) → NextTells o c (next_then n g)
tells_next_then o c none g tn tg = tt
tells_next_then o c (goes p) g tp tg = tells_bind o c p g tp tg

-- ---- any number

tells_repeat : {X : Type 0} (o c : ℕ) (step : Production X → Production X) → ((p : Production X) → Tells o c p → Tells o c (step p)) → Tells o c (repeat step)
unfolding turns
tells_repeat o c step t = record { level = λ ts x rest e. (turn (suc (length ts))).level ts x rest e; breaks = λ ts e h. (turn (suc (length ts))).breaks ts e h }
  where
    turn : (n : ℕ) → Tells o c (turns step n)
    turn zero = tells_refuse o c
    turn (suc n) = t (turns step n) (turn n)

-- up to a sign that closes
module _ {A : Type 0} (o c : ℕ) (item : Production A) (shut : Kind) (t : Tells o 0 item) (shuts : (xs : List A) → Behind o c shut (yield xs)) where
  comma_or_end : (x : A) (p : Production (List A)) → Tells o c p → Tells o c (branch kind.Comma (p >>= (λ xs. yield (x ∷ xs))) (sign shut >> yield (x ∷ [])))
  unfolding same_kind
  comma_or_end x p tp = tells_branch o c kind.Comma _ _ (behind_other o c kind.Comma _ refl refl (tells_map o c p (λ xs. x ∷ xs) tp)) (tells_sign o c shut _ (shuts (x ∷ [])))

  pub tells_commas : Tells o c (commas item shut)
  unfolding commas
  tells_commas = tells_repeat o c (comma_step item shut) (λ p tp. tells_branch o c shut _ _ (shuts []) (tells_bind o c item _ t (λ x. comma_or_end x p tp)))

  pub tells_some_commas : Tells o c (some_commas item shut)
  tells_some_commas = tells_bind o c item _ t (λ x. comma_or_end x (commas item shut) tells_commas)

  pub tells_until : Tells o c (until item shut)
  unfolding until
  tells_until = tells_repeat o c (until_step item shut) (λ p tp. tells_branch o c shut _ _ (shuts []) (tells_bind o c item _ t (λ x. tells_map o c p (λ xs. x ∷ xs) tp)))

pub tells_many : {A : Type 0} (o : ℕ) (k : Kind) (item : Production A) → same_kind k kind.LessThan ≡ false → same_kind k kind.GreaterThan ≡ false → Tells o 0 item → Tells o 0 (many k item)
unfolding many
tells_many o k item less greater t =
    tells_repeat o 0 (many_step k item) (λ p tp. tells_branch o 0 k _ _ (behind_other o 0 k _ less greater (tells_bind o 0 item _ t (λ x. tells_map o 0 p (λ xs. x ∷ xs) tp))) (tells_yield o []))

pub tells_optional : {A : Type 0} (o : ℕ) (k : Kind) (p : Production A) → Behind o 0 k p → Tells o 0 (optional k p)
tells_optional o k p b = tells_branch o 0 k _ _ (behind_bind o 0 k p _ b (λ x. tells_yield o (Some x))) (tells_yield o None)

-- a bracket that closes, and this value
pub tells_close : {X : Type 0} (o : ℕ) (x : X) → Tells o 1 (sign kind.GreaterThan >> yield x)
tells_close o x = tells_sign o 1 kind.GreaterThan _ (behind_close o x)

-- ---- the end

pub tells_at_end : {X : Type 0} (o : ℕ) (x : X) (q : Production X) → Tells o 0 q → Tells o 0 (at_end x q)
tells_at_end {X = X} o x q t = record { level = level; breaks = breaks }
  where
    level : (ts : List Tok) (y : X) (rest : List Tok) → at_end_at x q.read ts ≡ Ok (y, rest) → Level 0 ts rest
    level [] y rest e = (tells_yield o x).level [] y rest e
    level (u ∷ ts) y rest e = t.level (u ∷ ts) y rest e

    breaks : (ts : List Tok) (e : Fault) → at_end_at x q.read ts ≡ Err e → Break o ts e
    breaks [] e h = absurd cc
    breaks (u ∷ ts) e h = t.breaks (u ∷ ts) e h

pub tells_all : {A : Type 0} (o : ℕ) (item : Production A) → Tells o 0 item → Tells o 0 (all item)
unfolding all
tells_all o item t = tells_repeat o 0 (all_step item) (λ p tp. tells_at_end o [] _ (tells_bind o 0 item _ t (λ x. tells_map o 0 p (λ xs. x ∷ xs) tp)))

pub tells_finish : {X : Type 0} (o : ℕ) (x : X) → Tells o 0 (finish x)
tells_finish o x = tells_at_end o x _ (tells_refuse o 0)
