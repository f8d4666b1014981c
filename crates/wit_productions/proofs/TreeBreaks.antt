-- Where reading fails, nothing of the production goes on, and the fault's rule is broken there.
use Rattle.std.proofs.Common.{◌≡◌, ℕ, ◌+◌, ◌-◌, List, [], ◌∷◌, ◌++◌, length, drop, Err, refl, sym, ap, subst, ◌∙◌, arith, append_assoc, length-append}
use Rattle.std.proofs.lemmas.List.{drop_at}
use Rattle.wit_productions.specs.declared.fault.Fault.{Fault}
use Rattle.wit_tokens.specs.Passed.wit_words-declared-fault-Rule.{Rule}
use Rattle.wit_tokens.specs.Passed.wit_words-declared-fault-Rule-TheVariants as rules
use Rattle.wit_tokens.specs.Passed.wit_words-declared-token-Kind-TheVariants as kind
use Rattle.wit_productions.specs.Broken.{Breaks, IsBrokenTree, place_of}
use Rattle.wit_tokens.specs.Lex.{Text}
use Rattle.wit_tokens.specs.Lexical.{LexesText}
use Rattle.wit_productions.specs.Production.{Production}
use Rattle.wit_tokens.specs.Passed.wit_words-Token.{Tok}
use Rattle.wit_productions.proofs.BracketLaws.{Said, Tells, count_append, opens, closes}
use Rattle.wit_productions.proofs.Laws.{Law}
use Rattle.wit_productions.proofs.Turns.{same_cut}

-- what is said of the place in all tokens is so of those before it
breaks_of : (r : Rule) (ts before place : List Tok) → ts ≡ before ++ place → Said 0 r ts place → Breaks r before place
breaks_of rules.Unexpected ts before place parts s = tt
breaks_of rules.BadVersion ts before place parts s =
    let cut = same_cut before place (s.front ++ s.asks ∷ []) place (sym parts ∙ s.parts ∙ sym (append_assoc s.front (s.asks ∷ []) place)) refl in
    record { front = s.front; asks = s.asks; parts = cut.0; sign = s.sign; none = s.none }
breaks_of rules.BadNumber ts before place parts s = s
breaks_of rules.TooDeep ts before place parts s =
    let a : opens ts ≡ opens before + opens place = ap opens parts ∙ count_append kind.LessThan before place in
    let b : closes ts ≡ closes before + closes place = ap closes parts ∙ count_append kind.GreaterThan before place in
    record { first = s.first; stands = s.stands; begins = s.begins; enclosed = omega (arith, a, b, s.enclosed) }
breaks_of _ ts before place parts s = absurd s

-- what is left behind the tokens before a place
left_over : (ts before place : List Tok) (left : ℕ) → ts ≡ before ++ place → length place ≡ left → drop (length ts - left) ts ≡ place
left_over ts before place left parts lies =
    let all : length ts ≡ length before + length place = ap length parts ∙ length-append before place in
    let cut : length before ≡ length ts - left = omega (arith, all, lies) in
    ap (drop (length ts - left)) parts ∙ drop_at before place (length ts - left) cut

pub broken_tree : {X : Type 0} (p : Production X) → Law [] p → Tells 0 0 p → (offset : ℕ) (text : Text) (ts : List Tok) (e : Fault) → LexesText offset text ts → p.read ts ≡ Err e
    → IsBrokenTree p offset text e.rule (place_of (offset + length text) (drop (length ts - e.left) ts))
broken_tree p l t offset text ts e lexes h =
    let s = l.stuck ts e h in
    let b = t.breaks ts e h in
    let cut = same_cut b.taken b.place s.moves.taken s.place (sym b.parts ∙ s.moves.parts) (b.left ∙ sym s.left) in
    record {
      tokens = ts;
      lexes = lexes;
      before = s.moves.taken;
      place = s.place;
      parts = s.moves.parts;
      lies = ap (place_of (offset + length text)) (left_over ts s.moves.taken s.place e.left s.moves.parts s.left);
      none_goes_on = λ next x rest same f.
          let good = l.again (s.moves.taken ++ next) x rest f tt in
          let bad = s.moves.ever next same in
          absurd cc;
      breaks = breaks_of e.rule ts s.moves.taken s.place s.moves.parts (subst (λ (place : List Tok). Said 0 e.rule ts place) cut.1 b.says);
    }
