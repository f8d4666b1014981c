use Rattle.std.proofs.Common.{◌≡◌, Option, Some, None, sym, ap, ◌∙◌}
use Rattle.std.proofs.lemmas.Map.Text.{hash_map_updates_str}
use Rattle.std.specs.Prelude.{bytes_eq, unwrap_or}
use Rattle.std.specs.HashMap.{get_by}
use Rattle.wit_lookups.specs.declared.asks.Asked.{Asked}
use Rattle.wit_lookups.proofs.Asking.{known_stays, known_anew}
use Rattle.wit_checked_lookups.proofs.asks.first_asked.Goals as goal

pub returns-in-Some : goal.returns-in-Some
returns-in-Some c =
    let there : get_by (λ k. bytes_eq c.args.text.now k.now) c.args.known.now ≡ Some c.in-Some.first = sym c.get.ensures.value ∙ sym c.copied-first.ensures ∙ c.in-Some.is in
    record {
      first = sym (ap (λ (o : Option Asked). unwrap_or o c.args.asked) there);
      known = known_stays (λ t. get_by (λ k. bytes_eq t k.now) c.args.known.now) c.args.text.now c.args.asked c.in-Some.first there;
    }

pub returns-in_ok-insert-in-None-clause-known : goal.returns-in_ok-insert-in-None-clause-known
returns-in_ok-insert-in-None-clause-known c =
    let none : get_by (λ k. bytes_eq c.args.text.now k.now) c.args.known.now ≡ None = sym c.get.ensures.value ∙ sym c.copied-first.ensures ∙ c.in-None.is in
    known_anew (λ t. get_by (λ k. bytes_eq t k.now) c.args.known.now) (λ t. get_by (λ k. bytes_eq t k.now) c.insert.new.self) c.args.text.now c.args.asked none
    (hash_map_updates_str c.args.text.now c.args.known.now c.insert.new.self _ c.in_ok-insert-in-None.ensures.updates)
