use Rattle.std.proofs.Common.{◌≡◌, ◌≢◌, ◌+◌, ◌++◌, ◌∷◌, [], List, map, take, rules, refl, sym, ap, subst, ◌∙◌, arith, add-one}
use Rattle.std.proofs.Math.Seq.{take-suc}
use Rattle.std.proofs.lemmas.List.{map_push, take_all}
use Rattle.std.proofs.lemmas.Option.{slice_get-map}
use Rattle.std.specs.Prelude.{bytes_eq, unwrap_or, option_map}
use Rattle.std.specs.HashMap.{get_by}
use Rattle.wit_rules.proofs.Places.{read_at}
use Rattle.wit_checked_lookups.specs.declared.asks.Ask.{Ask}
use Rattle.wit_checked_lookups.specs.AskView.{ask}
use Rattle.wit_lookups.specs.Asking.{or_asked, asked_under}
use Rattle.wit_lookups.specs.Lookups.{AskTree}
use Rattle.wit_lookups.specs.Names.{Name}
use Rattle.wit_lookups.proofs.Asking.{AskedSoFar, Agree, asked_more, asked_otherwise, agree_kept, taken_at}
use Rattle.wit_checked_lookups.proofs.asks.check_asks.Goals as goal

pub loop-ask-preserved : goal.loop-ask-preserved
loop-ask-preserved c =
    let one = c.ask-item.result in
    let xs : List AskTree = map ask (take c.loop-ask.ask-index c.args.asks.now) in
    let text : c.as_str.result.now ≡ (ask one).text = c.as_str.ensures.value in
    let same : c.in_ok-first.first ≡ one.asked = search rules in
    let first : unwrap_or (get_by (λ k. bytes_eq (ask one).text k.now) c.loop-ask.known) one.asked ≡ one.asked =
    subst (λ (t : Name). unwrap_or (get_by (λ k. bytes_eq t k.now) c.loop-ask.known) one.asked ≡ one.asked) text (sym c.in_ok-first.ensures.first ∙ same) in
    let more : map ask (take (c.loop-ask.ask-index + 1) c.args.asks.now) ≡ xs ++ ask one ∷ [] =
    rw (add-one, take-suc c.args.asks.now c.loop-ask.ask-index one c.loop-ask-test.true, ← c.ask-item.is) (map_push ask (take c.loop-ask.ask-index c.args.asks.now) one) in
    subst (λ (all : List AskTree). AskedSoFar all (λ t. get_by (λ k. bytes_eq t k.now) c.first_asked.new.known)) (sym more)
    (asked_more xs (ask one) (λ t. get_by (λ k. bytes_eq t k.now) c.loop-ask.known) (λ t. get_by (λ k. bytes_eq t k.now) c.first_asked.new.known) c.loop-ask.invariant
    (λ t. c.in_ok-first.ensures.known t ∙ ap (λ (x : Name). or_asked (get_by (λ k. bytes_eq t k.now) c.loop-ask.known) (asked_under x one.asked t)) text)
    first)

pub returns-then-ne-clause-cause : goal.returns-then-ne-clause-cause
returns-then-ne-clause-cause c =
    let one = c.ask-item.result in
    let text : c.as_str.result.now ≡ (ask one).text = c.as_str.ensures.value in
    let other : c.in_ok-first.first ≢ one.asked = search rules in
    let first : unwrap_or (get_by (λ k. bytes_eq (ask one).text k.now) c.loop-ask.known) one.asked ≢ one.asked =
    subst (λ (t : Name). unwrap_or (get_by (λ k. bytes_eq t k.now) c.loop-ask.known) one.asked ≢ one.asked) text (λ e. other (c.in_ok-first.ensures.first ∙ e)) in
    let before = asked_otherwise (map ask (take c.loop-ask.ask-index c.args.asks.now)) (ask one) (λ t. get_by (λ k. bytes_eq t k.now) c.loop-ask.known) c.loop-ask.invariant first in
    let there = taken_at ask c.args.asks.now c.loop-ask.ask-index before.0 before.1 before.2 in
    record {
      rule_is = refl;
      place = c.loop-ask.ask-index;
      earlier = before.0;
      before = there.0;
      one = ask one;
      other = before.1;
      there = slice_get-map ask c.args.asks.now c.loop-ask.ask-index ∙ ap (option_map ask) (read_at c.args.asks.now c.loop-ask.ask-index one c.loop-ask-test.true c.ask-item.is);
      there_before = there.1;
      same = before.3;
      differs = before.4;
      stands = refl;
    }

pub returns-clause-ok : goal.returns-clause-ok
returns-clause-ok c =
    agree_kept (map ask c.args.asks.now)
    (subst (λ (all : List Ask). Agree (map ask all)) (take_all c.loop-ask.ask-index c.args.asks.now (omega (arith, c.loop-ask-test.false))) c.loop-ask.invariant.agree)
