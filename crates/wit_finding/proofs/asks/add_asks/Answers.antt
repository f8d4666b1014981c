use Rattle.std.proofs.Common.{◌≡◌, ◌++◌, List, inl, inr, refl, sym, ap, ◌∙◌, subst}
use Rattle.std.proofs.lemmas.Result.{err_from_is_err_and}
use Rattle.std.specs.Prelude.{string_bytes}
use Rattle.wit_words.specs.declared.source_map.Span.{Span}
use Rattle.wit_finding.specs.Asks.{ItemEntry, AreItemsThere, Ask, ask, asks_of, pair_of, finds, found_by, IsMissing, IsMissingAt}
use Rattle.wit_finding.proofs.Asking.{Leads, leads_all, leads_on, leads_done, cause_here, same_ask, found_one, found_all}
use Rattle.wit_finding.proofs.asks.add_asks.Goals as goal

pub add_ask-requires : goal.add_ask-requires
add_ask-requires c = subst (AreItemsThere c.args.asker.now.interfaces.now c.args.asker.now.worlds.now) c.in-Some.ensures.steps c.loop-name.invariant.there (c.in-Some.name.now, c.in-Some.asked.now) (inl refl)

pub loop-name-init : goal.loop-name-init
loop-name-init c =
    let features = c.args.asker.now.features.now in
    let interfaces = c.args.asker.now.interfaces.now in
    let worlds = c.args.asker.now.worlds.now in
    let p = c.args.«package».now in
    let all : List ItemEntry = c.args.items.now.entries in
    let start : c.into_iter-name-iterator.result ≡ all = c.into_iter-name-iterator.ensures.into_iter_gives ∙ c.iter-name-items.ensures.rest in
    record {
      found = ap (λ (es : List ItemEntry). c.args.found.now.items ++ found_by features (asks_of p es)) start;
      there = subst (AreItemsThere interfaces worlds) (sym start) c.requires;
      leads = subst (λ (es : List ItemEntry). Leads features interfaces worlds (asks_of p all) (asks_of p es)) (sym start) (leads_all features interfaces worlds (asks_of p all));
    }

pub loop-name-preserved : goal.loop-name-preserved
loop-name-preserved c =
    let features = c.args.asker.now.features.now in
    let interfaces = c.args.asker.now.interfaces.now in
    let worlds = c.args.asker.now.worlds.now in
    let p = c.args.«package».now in
    let all : List ItemEntry = c.args.items.now.entries in
    let rest : List ItemEntry = c.next.new.self in
    let left : List ItemEntry = c.loop-name.name-iterator in
    let was = c.loop-name.found.items in
    let inv = c.loop-name.invariant in
    let e : ItemEntry = (c.in-Some.name.now, c.in-Some.asked.now) in
    let a : Ask = ask p (string_bytes e.0) e.1.0 e.1.1.items in
    let b : Ask = ask p c.as_str.result.now e.1.0 c.as_slice.result.now in
    let same : b ≡ a = same_ask p c.as_str.result.now (string_bytes e.0) e.1.0 c.as_slice.result.now e.1.1.items c.as_str.ensures.value c.as_slice.ensures.value in
    record {
      found = found_one features was c.add_ask.new.found.items (c.args.found.now.items ++ found_by features (asks_of p all)) a (asks_of p rest) (asks_of p left)
          (subst (λ (x : Ask). c.add_ask.new.found.items ≡ was ++ pair_of e.1.0 (finds features x)) same c.in_ok-add_ask.ensures.found) (ap (asks_of p) c.in-Some.ensures.steps) inv.found;
      there = λ x h. subst (AreItemsThere interfaces worlds) c.in-Some.ensures.steps inv.there x (inr h);
      leads = leads_on features interfaces worlds (asks_of p all) a (asks_of p rest) (subst (λ (es : List ItemEntry). Leads features interfaces worlds (asks_of p all) (asks_of p es)) c.in-Some.ensures.steps inv.leads) (subst (λ (x : Ask). (at : Span) → IsMissingAt features interfaces worlds x at → ⊥) same c.in_ok-add_ask.ensures.kept);
    }

pub returns-in_err-add_ask-clause-cause : goal.returns-in_err-add_ask-clause-cause
returns-in_err-add_ask-clause-cause c =
    let features = c.args.asker.now.features.now in
    let interfaces = c.args.asker.now.interfaces.now in
    let worlds = c.args.asker.now.worlds.now in
    let p = c.args.«package».now in
    let all : List ItemEntry = c.args.items.now.entries in
    let rest : List ItemEntry = c.next.new.self in
    let e : ItemEntry = (c.in-Some.name.now, c.in-Some.asked.now) in
    let a : Ask = ask p (string_bytes e.0) e.1.0 e.1.1.items in
    let same : ask p c.as_str.result.now e.1.0 c.as_slice.result.now ≡ a = same_ask p c.as_str.result.now (string_bytes e.0) e.1.0 c.as_slice.result.now e.1.1.items c.as_str.ensures.value c.as_slice.ensures.value in
    let r = err_from_is_err_and c.from_residual.result c.from_residual.ensures.1 in
    rw (r.1, r.2) (cause_here features interfaces worlds (asks_of p all) a (asks_of p rest) (subst (λ (es : List ItemEntry). Leads features interfaces worlds (asks_of p all) (asks_of p es)) c.in-Some.ensures.steps c.loop-name.invariant.leads) _ (subst (λ (x : Ask). IsMissing features interfaces worlds x c.in_err-add_ask.field-0.0) same c.in_err-add_ask.ensures.cause))

pub returns-clause-found : goal.returns-clause-found
returns-clause-found c =
    let features = c.args.asker.now.features.now in
    let p = c.args.«package».now in
    let all : List ItemEntry = c.args.items.now.entries in
    let found = c.loop-name.found.items in
    found_all features found found (c.args.found.now.items ++ found_by features (asks_of p all)) (asks_of p c.loop-name.name-iterator) (ap (asks_of p) c.in-None.ensures.steps.0) c.loop-name.invariant.found

pub returns-clause-kept : goal.returns-clause-kept
returns-clause-kept c =
    let features = c.args.asker.now.features.now in
    let interfaces = c.args.asker.now.interfaces.now in
    let worlds = c.args.asker.now.worlds.now in
    let p = c.args.«package».now in
    let all : List ItemEntry = c.args.items.now.entries in
    leads_done features interfaces worlds (asks_of p all) (subst (λ (es : List ItemEntry). Leads features interfaces worlds (asks_of p all) (asks_of p es)) c.in-None.ensures.steps.0 c.loop-name.invariant.leads)
