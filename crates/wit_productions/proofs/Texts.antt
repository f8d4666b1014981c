-- What a reader of whole texts answers.
use Rattle.std.proofs.Common.{◌≡◌, ℕ, zero, suc, ◌+◌, ◌-◌, ◌^◌, ◌<◌, true, nat_lt, List, [], ◌∷◌, length, drop, Result, Ok, Err, refl, ap, sym, subst, ◌∙◌, inl, inr, arith, slice_index_or, Vec}
use Rattle.std.proofs.lemmas.Bool.{ltb-true}
use Rattle.std.proofs.lemmas.List.{length-map}
use Rattle.std.specs.Prelude.{IfOk, IfErr}
use Rattle.std.specs.declared.alloc.Global.{Global}
use Rattle.wit_productions.specs.declared.fault.Fault.{Fault}
use Rattle.wit_tokens.specs.Passed.wit_words-declared-fault-Rule.{Rule}
use Rattle.wit_tokens.specs.Passed.wit_words-declared-fault-SyntaxFault.{SyntaxFault}
use Rattle.wit_tokens.specs.Passed.wit_words-declared-fault-SyntaxFault-TheVariants as faults
use Rattle.wit_tokens.specs.Passed.wit_words-declared-source_map-Span.{Span}
use Rattle.wit_tokens.specs.Passed.wit_words-declared-token-DocumentedToken.{DocumentedToken}
use Rattle.wit_productions.specs.Broken.{place_of, IsBrokenTree, IsSyntaxFault}
use Rattle.wit_tokens.specs.Lex.{Text}
use Rattle.wit_tokens.specs.Lexical.{LexesText}
use Rattle.wit_tokens.specs.Passed.wit_words-Outcome.{AnswersText}
use Rattle.wit_productions.specs.Production.{Production, Outcome, ◌>>=◌, at_end, all, all_step, turns, finish, yield}
use Rattle.wit_tokens.specs.Passed.wit_words-Token.{Tok, tok, toks}
use Rattle.wit_productions.specs.WholeText.{IsTextOf, place_at, AgreesWith, GivesTree}
use Rattle.wit_productions.proofs.Laws.{Law, ok_parts}
use Rattle.wit_tokens.proofs.Lexemes.{one_lexing}

-- nothing is left behind it
pub record Whole {X : Type 0} (p : Production X) : Type 0 where
  pub ends : (ts : List Tok) (x : X) (rest : List Tok) → p.front x ts rest → rest ≡ []

pub whole_finish : {X : Type 0} (x : X) → Whole (finish x)
whole_finish {X = X} x = record { ends = λ ts y rest h. elim h [ inl done ↦ done.1 | inr no_way ↦ absurd no_way ] }

pub whole_bind : {A B : Type 0} (f : Production A) (g : A → Production B) → ((a : A) → Whole (g a)) → Whole (f >>= g)
whole_bind f g w = record { ends = λ ts y rest h. (w h.value).ends h.mid y rest h.second }

pub whole_map : {A B : Type 0} (p : Production A) (f : A → B) → Whole p → Whole (p >>= (λ x. yield (f x)))
whole_map p f w = record { ends = λ ts y rest h. sym h.second.0 ∙ w.ends ts h.value h.mid h.first }

pub whole_at_end : {X : Type 0} (x : X) (p : Production X) → Whole p → Whole (at_end x p)
whole_at_end x p w = record { ends = λ ts y rest h. elim h [ inl done ↦ done.1 | inr more ↦ w.ends ts y rest more ] }

pub whole_all : {A : Type 0} (item : Production A) → Whole (all item)
unfolding all turns
whole_all {A = A} item = record { ends = λ ts xs rest h. (in_turns h.0).ends ts xs rest h.1 }
  where
    in_turns : (n : ℕ) → Whole (turns (all_step item) n)
    in_turns zero = record { ends = λ ts xs rest h. absurd h }
    in_turns (suc n) = whole_at_end [] _ (whole_bind item _ (λ x. whole_map (turns (all_step item) n) (λ xs. x ∷ xs) (in_turns n)))

-- ---- where a token stands

there_at : (end i : ℕ) (ts : List DocumentedToken) (t d : DocumentedToken) → i < length ts → t ≡ slice_index_or ts i d → place_of end (drop i (toks ts)) ≡ t.span
there_at end i [] t d l e = absurd (omega arith)
there_at end zero (u ∷ ts) t d l e = ap (λ (v : DocumentedToken). v.span) (sym e)
there_at end (suc i) (u ∷ ts) t d l e = there_at end i ts t d (omega arith) e

pub stands_there : (end left i : ℕ) (ts : List DocumentedToken) (t d : DocumentedToken) → i ≡ length ts - left → true ≡ nat_lt i (length ts) → t ≡ slice_index_or ts i d → t.span ≡ place_at end left (toks ts)
stands_there end left i ts t d same lt e =
    let few : i < length ts = ltb-true i (length ts) (sym lt) in
    let there : length (toks ts) - left ≡ i = ap (λ (n : ℕ). n - left) (length-map ts tok) ∙ sym same in
    sym (ap (λ (n : ℕ). place_of end (drop n (toks ts))) there ∙ there_at end i ts t d few e)

-- ---- answers

-- a text that isn't read as tokens has no tree
pub lex_refuses : {X Y : Type 0} (view : X → Y) (ts : List Tok) (d : Y) (e : SyntaxFault) → AnswersText (λ (v : Vec DocumentedToken Global). toks v.items) (Err e) ts → AnswersText view (Err e) d
lex_refuses view ts d faults.OutOfMemory h = h
lex_refuses view ts d faults.TooLarge h = h
lex_refuses view ts d (faults.Broken rule at) h = h

module _ {Y : Type 0} (p : Production Y) (l : Law [] p) (offset : ℕ) (text : Text) where
  read_tree : (ts : List Tok) (d : Y) → LexesText offset text ts → IsTextOf p offset text d → p.read ts ≡ Ok (d, [])
  read_tree ts d lexes t = l.again ts d [] (subst (λ (us : List Tok). p.front d us []) (one_lexing offset text t.tokens ts t.lexes lexes) t.tree) tt

  abbrev given : Y → Outcome Y
  given d = Ok (d, [])

  given_is : (d e : Y) → given d ≡ given e → d ≡ e
  given_is d e h = let q = ok_parts d e [] [] h in q.0

  -- a text has one tree at most
  pub one_tree : (d e : Y) → IsTextOf p offset text d → IsTextOf p offset text e → d ≡ e
  one_tree d e t u = given_is d e (sym (read_tree t.tokens d t.lexes t) ∙ read_tree t.tokens e t.lexes u)

  module _ {X : Type 0} (view : X → Y) (ts : List Tok) (lexes : LexesText offset text ts) where
    pub text_tree : Whole p → offset + length text < 2 ^ 32 → (r : Result X SyntaxFault) → GivesTree view p (offset + length text) ts r → IfOk r (λ x. IsTextOf p offset text (view x))
    text_tree w small (Err e) g = tt
    text_tree w small (Ok x) g = tree_of (p.read ts) refl g
      where
        tree_of : (o : Outcome Y) → p.read ts ≡ o → AgreesWith view (offset + length text) ts (Ok x) o → IsTextOf p offset text (view x)
        tree_of (Err f) is e = absurd e
        tree_of (Ok y) is e =
            let h = l.found ts y.0 y.1 is in
            let whole = subst (λ (rest : List Tok). p.front y.0 ts rest) (w.ends ts y.0 y.1 h) h in
            record { small = small; tokens = ts; lexes = lexes; tree = subst (λ (d : Y). p.front d ts []) (sym e) whole }

    pub text_answers : (r : Result X SyntaxFault) (d : Y) → GivesTree view p (offset + length text) ts r → IsTextOf p offset text d → AnswersText view r d
    text_answers (Ok x) d g t = rw (read_tree ts d lexes t) at g
    text_answers (Err faults.OutOfMemory) d g t = tt
    text_answers (Err faults.TooLarge) d g t = rw (read_tree ts d lexes t) at g
    text_answers (Err (faults.Broken rule at)) d g t = rw (read_tree ts d lexes t) at g

    pub text_cause : ((e : Fault) → p.read ts ≡ Err e → IsBrokenTree p offset text e.rule (place_at (offset + length text) e.left ts)) → (r : Result X SyntaxFault) → GivesTree view p (offset + length text) ts r → IfErr r (IsSyntaxFault p offset text)
    text_cause broken (Ok x) g = tt
    text_cause broken (Err faults.OutOfMemory) g = tt
    text_cause broken (Err faults.TooLarge) g = too_large (p.read ts) g
      where
        too_large : (o : Outcome Y) → AgreesWith view (offset + length text) ts (Err faults.TooLarge) o → IsSyntaxFault p offset text faults.TooLarge
        too_large (Ok y) e = absurd e
        too_large (Err f) e = absurd (let bad = e in cc)
    text_cause broken (Err (faults.Broken rule at)) g = broken_at (p.read ts) refl g
      where
        broken_at : (o : Outcome Y) → p.read ts ≡ o → AgreesWith view (offset + length text) ts (Err (faults.Broken rule at)) o → IsSyntaxFault p offset text (faults.Broken rule at)
        broken_at (Ok y) is e = absurd e
        broken_at (Err f) is e =
            let same_rule : f.rule ≡ rule = cc in
            let same_place : place_at (offset + length text) f.left ts ≡ at = cc in
            inr (subst (λ (a : Span). IsBrokenTree p offset text rule a) same_place (subst (λ (r : Rule). IsBrokenTree p offset text r (place_at (offset + length text) f.left ts)) same_rule (broken f is)))
