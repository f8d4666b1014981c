use Rattle.std.proofs.Common.{ℕ, sym, ap, ◌∙◌, drop}
use Rattle.std.specs.Prelude.{slice_get}
use Rattle.indexmap.specs.IndexMap.{keys}
use Rattle.wit_finding.proofs.Having.{left_next}
use Rattle.wit_finding.proofs.Naming.{dep_at, next_named, is_unknown}
use Rattle.wit_finding.proofs.packages.packages_named.Goals as goal

pub loop-place-preserved : goal.loop-place-preserved
loop-place-preserved g c =
    let s = c.in-Some.ensures.steps in
    let k : ℕ = c.loop-place.place-iterator.count in
    let n : ℕ = c.next.new.self.count in
    let x = c.in-Some.name.now in
    let rest = c.next.new.self.iter in
    let left = sym c.loop-place.invariant.left ∙ s.0 in
    record {
      left = sym (ap (λ (j : ℕ). drop j (keys c.args.deps.now)) s.2 ∙ left_next (keys c.args.deps.now) k x rest left);
      named = next_named g.K.PartialEq.eq c.args.names.now.entries c.args.deps.now.entries k n c.loop-place.found.items c.push.new.self.items x rest c.in-Some-get.id.now s.2 c.in_ok-push-in-Some-get.ensures.items left c.in-Some-get.ensures.value c.loop-place.invariant.named;
    }

pub returns-in-None-get-clause-cause : goal.returns-in-None-get-clause-cause
returns-in-None-get-clause-cause g c =
    let s = c.in-Some.ensures.steps in
    let k : ℕ = c.loop-place.place-iterator.count in
    let x = c.in-Some.name.now in
    let d = dep_at c.args.deps.now.entries k x c.next.new.self.iter (sym c.loop-place.invariant.left ∙ s.0) in
    record {
      place = k;
      dep = d.0;
      there = d.1;
      unknown = is_unknown g.K.PartialEq.eq c.args.names.now.entries x d.0.0 d.2 c.in-None-get.ensures.value;
      stands = ap (λ (j : ℕ). slice_get c.args.spans.now j) (sym s.1) ∙ c.span_at.ensures;
    }
