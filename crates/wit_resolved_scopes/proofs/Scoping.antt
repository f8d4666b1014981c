-- What a scope breaks is what fails in the arena.
use Rattle.std.proofs.Common.{◌≡◌, ℕ, List, Some, map}
use Rattle.std.specs.Prelude.{slice_get}
use Rattle.wit_words.specs.declared.source_map.Span.{Span}
use Rattle.wit_types.specs.declared.interface.TypeDef.{TypeDef}
use Rattle.wit_types.specs.declared.interface.TypeOwner.{TypeOwner}
use Rattle.wit_lookups.specs.Passed.wit_scopes-Members.{MemberTree}
use Rattle.wit_lookups.specs.Passed.wit_scopes-Scopes.{ItemScope}
use Rattle.wit_lookups.specs.Passed.wit_rules-declared-fault-PackageRule.{PackageRule}
use Rattle.wit_lookups.specs.Passed.wit_rules-declared-fault-PackageFault.{PackageFault}
use Rattle.wit_lookups.specs.Passed.wit_rules-Breaks.{IsKept, IsFaultOf}
use Rattle.wit_lookups.proofs.Passed.wit_rules-Breaking.{widened}
use Rattle.wit_orders.specs.Needs.{type_entry, CircleBreaks}
use Rattle.wit_resources.specs.Passed.wit_arena-Tree.{PackageText, Place, resource_leaf}
use Rattle.wit_resources.specs.Passed.wit_arena-Table.{Entries}
use Rattle.wit_resources.specs.Passed.wit_arena-Unfold.{Owners}
use Rattle.wit_functions.specs.Passed.wit_package_types-Known.{KnownTypes}
use Rattle.wit_functions.proofs.Passed.wit_package_types-Filled.{filled_types_stand_for_their_meaning}
use Rattle.wit_resources.specs.Natures.{natures}
use Rattle.wit_resources.specs.Rules as rule
use Rattle.wit_resources.specs.Rules.{MemberBreaks}
use Rattle.wit_resources.proofs.Told.{natures_tell_what_types_mean}
use Rattle.wit_resolved_scopes.specs.Scope.{FillsSorted, AreReady}
use Rattle.wit_resolved_scopes.specs.Faults as fault
use Rattle.wit_resolved_scopes.specs.Faults.{ScopeBreaks, ResultsBreak, MemberFails, MembersFail, StandsSoFar, MayBeFilled}
use Rattle.wit_resolved_scopes.proofs.Orders.{sorted_has}
use Rattle.wit_resolved_scopes.proofs.Readying.{handles_there}

module _ (me : PackageText) (scopes : List ItemScope) (owners : Owners) (o : Place) (whose : TypeOwner) (k : KnownTypes) (types ms : List MemberTree) (a b : List TypeDef) (table : Entries) (may : MayBeFilled me scopes owners o whose k types a)
    (fills : FillsSorted k whose a types b table)
  where
    -- what is filled stands for what it means
    pub stands_filled : StandsSoFar me scopes owners o table b
    stands_filled =
        let law = filled_types_stand_for_their_meaning me scopes resource_leaf owners in
        let s = law.filled o whose k a b fills.sorted table (record { owner = may.of_scope.owner; declared = λ m has. may.of_scope.declared m (sorted_has types fills.sorted fills.are_sorted m has) }) may.whole may.known fills.fills in
        record { functional = may.functional; whole = s.0.whole; right = s.1 }

    -- a member that fails breaks a rule
    member_breaks : (m : MemberTree) (r : PackageRule) (at : Span) → MemberFails (natures b) table types m.kind r at → MemberBreaks me scopes o types m.kind r at
    member_breaks m r at (fault.by_handle h) =
        rule.by_handle (record { place = h.place; one = h.one; there = h.there; breaks = (natures_tell_what_types_mean me scopes owners o table b).handle_breaks h.one r at stands_filled.right h.breaks })
    member_breaks m r at (fault.by_constructor h) = rule.by_constructor h

    pub members_fault : (f : PackageFault) → IsFaultOf (MembersFail (natures b) table types ms) f → IsFaultOf (ScopeBreaks me scopes o types ms) f
    members_fault =
        widened (MembersFail (natures b) table types ms) (ScopeBreaks me scopes o types ms)
        (λ r at h. fault.by_member (record { place = h.place; one = h.one; there = h.there; breaks = member_breaks h.one r at h.breaks }))

    pub results_fault : (f : PackageFault) → IsFaultOf (ResultsBreak me scopes o ms) f → IsFaultOf (ScopeBreaks me scopes o types ms) f
    results_fault =
        widened (ResultsBreak me scopes o ms) (ScopeBreaks me scopes o types ms)
        (λ r at h. fault.by_member (record { place = h.place; one = h.one; there = h.there; breaks = rule.by_result h.breaks }))

    member_kept : (ready : AreReady k types ms) → IsKept (MembersFail (natures b) table types ms) → IsKept (ResultsBreak me scopes o ms)
        → (place : ℕ) (m : MemberTree) → slice_get ms place ≡ Some m → (r : PackageRule) (at : Span) → MemberBreaks me scopes o types m.kind r at → ⊥
    member_kept ready members results place m there r at (rule.by_handle h) =
        let entry = handles_there k types ms ready whose a b table fills m (place, there) h.one (h.place, h.there) in
        (natures_tell_what_types_mean me scopes owners o table b).handle_kept h.one entry.0 may.functional stands_filled.right entry.1
        (λ r2 at2 fails. members r2 at2 (record { place = place; one = m; there = there; breaks = fault.by_handle (record { place = h.place; one = h.one; there = h.there; breaks = fails }) })) r at h.breaks
    member_kept ready members results place m there r at (rule.by_result h) = results r at (record { place = place; one = m; there = there; breaks = h })
    member_kept ready members results place m there r at (rule.by_constructor h) = members r at (record { place = place; one = m; there = there; breaks = fault.by_constructor h })

    pub scope_kept : AreReady k types ms → IsKept (CircleBreaks (map type_entry types)) → IsKept (MembersFail (natures b) table types ms) → IsKept (ResultsBreak me scopes o ms) → IsKept (ScopeBreaks me scopes o types ms)
    scope_kept ready circles members results r at (fault.by_circle h) = circles r at h
    scope_kept ready circles members results r at (fault.by_member h) = member_kept ready members results h.place h.one h.there r at h.breaks

pub circle_fault : (me : PackageText) (scopes : List ItemScope) (o : Place) (types ms : List MemberTree) (f : PackageFault) → IsFaultOf (CircleBreaks (map type_entry types)) f → IsFaultOf (ScopeBreaks me scopes o types ms) f
circle_fault me scopes o types ms = widened (CircleBreaks (map type_entry types)) (ScopeBreaks me scopes o types ms) (λ r at h. fault.by_circle h)
