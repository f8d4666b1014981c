use Rattle.std.proofs.Common.{arith}
use Rattle.std.specs.Prelude.{Any}
use Rattle.core_links.specs.Names.{names_in}
use Rattle.linked_components.specs.Tracks.{HasOtherText}
use Rattle.linked_components.proofs.Following.{there}
use Rattle.linked_components.proofs.Others.{any_at, none_more, taken_whole}
use Rattle.linked_components.proofs.tracks.names_change.Goals as goal

pub has_other_text-requires : goal.has_other_text-requires
has_other_text-requires c = c.law_imports_are_there.ensures c.requires.0 c.requires.1 (names_in c.args.names.now) c.requires.2 c.requires.3

pub returns-then-branch-clause-yes : goal.returns-then-branch-clause-yes
returns-then-branch-clause-yes c is =
    let n = names_in c.args.names.now in
    let es = n.world.imports.entries in
    let size = c.len-entry-end.ensures.len in
    let lt = c.loop-entry-test.true in
    let e = there es c.loop-entry.entry (omega (arith, size, lt)) in
    any_at (HasOtherText n) es c.loop-entry.entry e.0 e.1 (c.in_ok-has_other_text.ensures.yes c.if-branch.true e.0 e.1)

pub loop-entry-preserved : goal.loop-entry-preserved
loop-entry-preserved c =
    let n = names_in c.args.names.now in
    none_more (HasOtherText n) n.world.imports.entries c.loop-entry.entry (c.in_ok-has_other_text.ensures.no c.if-branch.false) c.loop-entry.invariant

pub returns-clause-no : goal.returns-clause-no
returns-clause-no c is other =
    let n = names_in c.args.names.now in
    let size = c.len-entry-end.ensures.len in
    let past = c.loop-entry-test.false in
    c.loop-entry.invariant (taken_whole (HasOtherText n) n.world.imports.entries c.loop-entry.entry (omega (arith, size, past)) other)
