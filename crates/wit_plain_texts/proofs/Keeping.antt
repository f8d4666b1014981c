-- What productions read of tokens whose names have no marks has none.
use Rattle.std.proofs.Common.{◌≡◌, ℕ, zero, suc, List, [], ◌∷◌, ◌++◌, ◌⊎◌, inl, inr, Option, Some, None, Result, Ok, Err, refl, sym, subst, ap, ◌∙◌}
use Rattle.std.specs.List.{AllByRecursion as Each}
use Rattle.std.specs.Prelude.{unwrap_or}
use Rattle.wit_words.specs.declared.fault.Rule.{Rule}
use Rattle.wit_words.specs.declared.source_map.Span.{Span}
use Rattle.wit_words.specs.declared.token.Kind.{Kind}
use Rattle.wit_words.specs.declared.token.Kind.TheVariants as kind
use Rattle.wit_words.specs.Slice.{Slice}
use Rattle.wit_words.specs.Token.{What, Tok, plain, number, version, ident, explicit}
use Rattle.wit_nested.specs.Passed.wit_productions-Production.{Production, ◌>>=◌, ◌>>◌, Then, yield, Stands, sign, Branches, branch, optional, Documents, documented, Locates, located, Next, none, goes, next_front, next_then, Chosen, by, turns, repeat, commas, comma_step, some_commas, until, until_step, at_end, all, all_step}
use Rattle.wit_nested.specs.Passed.wit_productions-Terminal.{id, id_in}
use Rattle.wit_nested.proofs.Passed.wit_productions-Laws.{Law, Suffix, sign_law}
use Rattle.wit_plain_texts.specs.Plain.{IsPlain}
use Rattle.wit_plain_texts.specs.Trees.{IsPlainName}
use Rattle.wit_plain_texts.proofs.Tokens.{SaysPlain, ArePlain}

abbrev pub Any : {X : Type 0} → X → Type 0
Any x = Unit {0}

pub record Keeps {X : Type 0} (Q : X → Type 0) (p : Production X) : Type 0 where
  pub keeps : (x : X) (ts rest : List Tok) → p.front x ts rest → ArePlain ts → Q x × ArePlain rest

behind : (ts rest : List Tok) → ArePlain (ts ++ rest) → ArePlain rest
behind [] rest h = h
behind (t ∷ ts) rest h = behind ts rest h.1

pub of_law : {X : Type 0} (ends : List Kind) (p : Production X) → Law ends p → Keeps Any p
of_law ends p l = record { keeps = λ x ts rest h are. (let s = l.suffix ts x rest h in (tt, behind s.taken rest (subst ArePlain s.parts are))) }

pub then_keeps : {A B : Type 0} {Q : A → Type 0} {R : B → Type 0} (f : Production A) (g : A → Production B) → Keeps Q f → ((a : A) → Q a → Keeps R (g a)) → Keeps R (f >>= g)
then_keeps f g first second = record { keeps = λ y ts rest h are. (let a = first.keeps h.value ts h.mid h.first are in (second h.value a.0).keeps y h.mid rest h.second a.1) }

pub yield_keeps : {X : Type 0} {Q : X → Type 0} (x : X) → Q x → Keeps Q (yield x)
yield_keeps {Q = Q} x q = record { keeps = λ y ts rest h are. (subst Q (sym h.1) q, subst ArePlain h.0 are) }

pub sign_keeps : (k : Kind) → Keeps Any (sign k)
sign_keeps k = of_law [] (sign k) (sign_law [] k)

pub skip : {X : Type 0} {Q : X → Type 0} (k : Kind) (p : Production X) → Keeps Q p → Keeps Q (sign k >> p)
skip k p q = then_keeps (sign k) (λ _. p) (sign_keeps k) (λ a b. q)

pub branch_keeps : {X : Type 0} {Q : X → Type 0} (k : Kind) (p q : Production X) → Keeps Q p → Keeps Q q → Keeps Q (branch k p q)
unfolding branch
branch_keeps {X} {Q} k p q first second = record {
  keeps = λ x ts rest h are. elim h.way as (λ _. Q x × ArePlain rest) [
    | inl (mid, stands, is) ↦ first.keeps x mid rest is (let all = subst ArePlain stands.first are in all.1)
    | inr is ↦ second.keeps x ts rest is are
  ];
}

abbrev pub IfSaid : {X : Type 0} → (X → Type 0) → Option X → Type 0
IfSaid Q None = Unit {0}
IfSaid Q (Some x) = Q x

pub optional_keeps : {X : Type 0} {Q : X → Type 0} (k : Kind) (p : Production X) → Keeps Q p → Keeps (IfSaid Q) (optional k p)
optional_keeps {Q = Q} k p q = branch_keeps k (p >>= (λ x. yield (Some x))) (yield None) (then_keeps p (λ x. yield (Some x)) q (λ x is. yield_keeps (Some x) is)) (yield_keeps None tt)

-- whatever is said
pub weaker : {X : Type 0} {Q : X → Type 0} (R : X → Type 0) (p : Production X) → ((x : X) → Q x → R x) → Keeps Q p → Keeps R p
weaker R p f q = record { keeps = λ x ts rest h are. (let a = q.keeps x ts rest h are in (f x a.0, a.1)) }

pub any : {X : Type 0} {Q : X → Type 0} (p : Production X) → Keeps Q p → Keeps Any p
any p q = weaker Any p (λ x is. tt) q

pub documented_keeps : {X : Type 0} {Q : X → Type 0} (p : Production X) → Keeps Q p → Keeps (λ (x : List Slice × X). Q x.1) (documented p)
unfolding documented
documented_keeps p q = record { keeps = λ x ts rest h are. q.keeps x.1 ts rest h.item are }

pub located_keeps : {X : Type 0} {Q : X → Type 0} (p : Production X) → Keeps Q p → Keeps (λ (x : Span × X). Q x.1) (located p)
unfolding located
located_keeps p q = record { keeps = λ x ts rest h are. q.keeps x.1 ts rest h.item are }

-- ---- by the first token

abbrev pub NextKeeps : {X : Type 0} → (X → Type 0) → Next X → Type 0
NextKeeps Q none = Unit {0}
NextKeeps Q (goes p) = Keeps Q p

next_keeps : {X : Type 0} (Q : X → Type 0) (n : Next X) (x : X) (ts rest : List Tok) → NextKeeps Q n → next_front n x ts rest → ArePlain ts → Q x × ArePlain rest
next_keeps Q none x ts rest k h are = absurd h
next_keeps Q (goes p) x ts rest k h are = k.keeps x ts rest h are

pub by_keeps : {X : Type 0} (Q : X → Type 0) (table : What → Next X) → ((w : What) → NextKeeps Q (table w)) → Keeps Q (by table)
by_keeps Q table each = record { keeps = λ x ts rest h are. next_keeps Q (table h.token.what) x h.mid rest (each h.token.what) h.second (let all = subst ArePlain h.first are in all.1) }

pub next_then_keeps : {A B : Type 0} (Q : A → Type 0) (R : B → Type 0) (n : Next A) (g : A → Production B) → NextKeeps Q n → ((a : A) → Q a → Keeps R (g a)) → NextKeeps R (next_then n g)
next_then_keeps Q R none g k h = tt
next_then_keeps Q R (goes p) g k h = then_keeps p g k h

-- ---- many

pub repeat_keeps : {X : Type 0} (Q : X → Type 0) (step : Production X → Production X) → ((p : Production X) → Keeps Q p → Keeps Q (step p)) → Keeps Q (repeat step)
unfolding turns
repeat_keeps Q step each = record { keeps = λ x ts rest h are. (turn h.0).keeps x ts rest h.1 are }
  where
    turn : (n : ℕ) → Keeps Q (turns step n)
    turn zero = record { keeps = λ x ts rest h are. absurd h }
    turn (suc n) = each (turns step n) (turn n)

pub until_keeps : {A : Type 0} {Q : A → Type 0} (item : Production A) (shut : Kind) → Keeps Q item → Keeps (Each Q) (until item shut)
unfolding until
until_keeps {A} {Q} item shut q = repeat_keeps (Each Q) (until_step item shut) (λ p k. branch_keeps shut (yield []) _ (yield_keeps [] tt) (then_keeps item _ q (λ x is. then_keeps p _ k (λ xs are. yield_keeps (x ∷ xs) (is, are)))))

pub commas_keeps : {A : Type 0} {Q : A → Type 0} (item : Production A) (shut : Kind) → Keeps Q item → Keeps (Each Q) (commas item shut)
unfolding commas
commas_keeps {A} {Q} item shut q =
    repeat_keeps (Each Q) (comma_step item shut)
    (λ p k. branch_keeps shut (yield []) _ (yield_keeps [] tt)
    (then_keeps item _ q (λ x is. branch_keeps kind.Comma _ _ (then_keeps p _ k (λ xs are. yield_keeps (x ∷ xs) (is, are))) (skip shut (yield (x ∷ [])) (yield_keeps (x ∷ []) (is, tt))))))

pub some_commas_keeps : {A : Type 0} {Q : A → Type 0} (item : Production A) (shut : Kind) → Keeps Q item → Keeps (Each Q) (some_commas item shut)
some_commas_keeps {A} {Q} item shut q =
    then_keeps item _ q (λ x is. branch_keeps kind.Comma _ _ (then_keeps (commas item shut) _ (commas_keeps item shut q) (λ xs are. yield_keeps (x ∷ xs) (is, are))) (skip shut (yield (x ∷ [])) (yield_keeps (x ∷ []) (is, tt))))

pub at_end_keeps : {X : Type 0} {Q : X → Type 0} (x : X) (q : Production X) → Q x → Keeps Q q → Keeps Q (at_end x q)
at_end_keeps {X} {Q} x q is k = record {
  keeps = λ y ts rest h are. elim h as (λ _. Q y × ArePlain rest) [
    | inl (none_left, nothing, same) ↦ (subst Q (sym same) is, subst ArePlain (sym nothing) tt)
    | inr more ↦ k.keeps y ts rest more are
  ];
}

pub all_keeps : {A : Type 0} {Q : A → Type 0} (item : Production A) → Keeps Q item → Keeps (Each Q) (all item)
unfolding all
all_keeps {A} {Q} item q = repeat_keeps (Each Q) (all_step item) (λ p k. at_end_keeps [] _ tt (then_keeps item _ q (λ x is. then_keeps p _ k (λ xs are. yield_keeps (x ∷ xs) (is, are)))))

-- ---- names

said : (w : What) (s : List ℕ) → SaysPlain w → id_in w ≡ Ok s → IsPlain s
said (ident x) s is h = (let same : x ≡ s = cc in subst IsPlain same is)
said (explicit x) s is h = (let same : x ≡ s = cc in subst IsPlain same is)
said (plain k) s is h = absurd cc
said (number x) s is h = absurd cc
said (version x) s is h = absurd cc

pub id_keeps : Keeps IsPlainName id
unfolding id
id_keeps = record { keeps = λ n ts rest h are. (let all = subst ArePlain h.first are in (said h.token.what n.text all.0 h.good, all.1)) }
