-- Tokens by what they say, optional parts, and the end.
use Rattle.std.proofs.Common.{◌≡◌, ℕ, List, [], ◌∷◌, refl, true, false, Option, Some, None, Ok, inl, inr}
use Rattle.wit_tokens.specs.Passed.wit_words-declared-fault-Rule-TheVariants as rules
use Rattle.wit_tokens.specs.Passed.wit_words-declared-token-Kind.{Kind}
use Rattle.wit_tokens.specs.Passed.wit_words-Slice.{Slice}
use Rattle.wit_productions.specs.Terminal.{id_in, id, version_in, version, word_in, word}
use Rattle.wit_tokens.specs.Passed.wit_words-Token.{What, Tok, plain, number, version as version_token, ident, explicit}
use Rattle.wit_productions.specs.Production.{Production, ◌>>=◌, Next, leads_on, yield, refuse, optional, sees, finish}
use Rattle.wit_productions.proofs.Laws.{Clear, Law, Avoids, bind_open, yield_law, refuse_law, one_law, slice_law, branch_law}
use Rattle.wit_productions.proofs.Choices.{Goes, Beyond, avoid_yield, avoid_slice, goes_slice, is_within}
use Rattle.wit_productions.proofs.Turns.{at_end_law, weaken}

pub id_law : (ends : List Kind) → Law ends id
unfolding id
id_law ends = slice_law ends id_in

pub id_avoids : (ends begins : List Kind) → Avoids ends begins id
unfolding id
id_avoids ends begins = avoid_slice ends begins id_in rules.Unexpected (λ k. refl)

pub id_goes : (ends : List Kind) → Goes ends id
unfolding id
id_goes ends = goes_slice ends id_in

pub version_law : (ends : List Kind) → Law ends version
unfolding version
version_law ends = slice_law ends version_in

pub word_law : (ends : List Kind) (w : List ℕ) → Law ends (word w)
unfolding word
word_law ends w = one_law ends (word_in w)

-- what begins with an identifier goes beyond a table of keywords
pub beyond_id : {X Y : Type 0} (table : What → Next X) (g : Slice → Production Y) → ((s : List ℕ) → leads_on (table (ident s)) ≡ false) → ((s : List ℕ) → leads_on (table (explicit s)) ≡ false) → Beyond table (id >>= g)
unfolding id
beyond_id table g plainly marked = record { nowhere = λ ts x rest h t us e. let same : h.first.token ≡ t = first_is h.first.token t h.mid us (h.first.first) e in rw (← same) (by_what h.first.token.what h.value.text h.first.good) }
  where
    first_is : (a b : Tok) (as_ bs : List Tok) {ts : List Tok} → ts ≡ a ∷ as_ → ts ≡ b ∷ bs → a ≡ b
    first_is a b as_ bs e f = cc

    by_what : (w : What) (s : List ℕ) → id_in w ≡ Ok s → leads_on (table w) ≡ false
    by_what (plain k) s e = absurd cc
    by_what (number n) s e = absurd cc
    by_what (version_token n) s e = absurd cc
    by_what (ident n) s e = plainly n
    by_what (explicit n) s e = marked n

-- an optional part, if what follows doesn't begin as it does
pub optional_law : {A : Type 0} (ends : List Kind) (k : Kind) (p : Production A) → Law ends p → is_within (k ∷ []) ends ≡ true → is_within ends ends ≡ true → Law ends (optional k p)
optional_law ends k p l e f = branch_law ends k (p >>= (λ x. yield (Some x))) (yield None) (bind_open ends ends p (λ x. yield (Some x)) l (λ x. yield_law ends (Some x)) (λ x. avoid_yield ends ends (Some x) f)) (yield_law ends None) (avoid_yield ends (k ∷ []) None e)

-- the same, and what follows it
pub bind_optional : {A B : Type 0} (ends : List Kind) (k : Kind) (p : Production A) (g : Option A → Production B) → Law [] p → ((a : Option A) → Law ends (g a)) → ((a : Option A) → Avoids ends (k ∷ []) (g a)) → is_within (k ∷ []) (k ∷ []) ≡ true
    → Law ends (optional k p >>= g)
bind_optional ends k p g l lg av e = bind_open ends (k ∷ []) (optional k p) g (optional_law (k ∷ []) k p (weaken (k ∷ []) p l) e e) lg av

-- the same with a part that is open itself
pub bind_optional_open : {A B : Type 0} (ends inner : List Kind) (k : Kind) (p : Production A) (g : Option A → Production B) → Law inner p → ((a : Option A) → Law ends (g a)) → ((a : Option A) → Avoids ends (k ∷ inner) (g a))
    → Law ends (optional k p >>= g)
bind_optional_open ends inner k p g l lg av = bind_open ends (k ∷ inner) (optional k p) g optional_open lg av
  where
    optional_open : Law (k ∷ inner) (optional k p)
    optional_open = branch_law (k ∷ inner) k (p >>= (λ x. yield (Some x))) (yield None)
        (bind_open (k ∷ inner) inner p (λ x. yield (Some x)) l (λ x. yield_law (k ∷ inner) (Some x)) (λ x. record { clear = λ ts y rest h c. rw (h.0) (c.1) })) (yield_law (k ∷ inner) None) (record { clear = λ ts y rest h c. rw (h.0) (c.0, tt) })

pub finish_law : {X : Type 0} (ends : List Kind) (x : X) → Law ends (finish x)
finish_law ends x = at_end_law ends x (refuse rules.Unexpected) (refuse_law ends rules.Unexpected) (record { shorter = λ ts y rest h. absurd h })

none_clear : (ks : List Kind) → Clear ks []
unfolding sees
none_clear [] = tt
none_clear (k ∷ ks) = (refl, none_clear ks)

pub finish_avoids : {X : Type 0} (ends begins : List Kind) (x : X) → Avoids ends begins (finish x)
finish_avoids ends begins x = record { clear = λ ts y rest h c. elim h [ inl done ↦ rw (done.0) (none_clear begins) | inr no_way ↦ absurd no_way ] }
