-- What is asked of other packages has the gates of what asks, and these keep their rules.
use Rattle.std.proofs.Common.{◌≡◌, List, Option, Some, None, refl, sym, subst, ap}
use Rattle.std.specs.Prelude.{flat_map}
use Rattle.wit_words.specs.Slice.{Slice}
use Rattle.wit_items.specs.ItemTree.{AttributeTree}
use Rattle.wit_foreign.specs.Passed.wit_scopes-Paths.{TargetTree, own, foreign}
use Rattle.wit_foreign.specs.Passed.wit_scopes-Members.{MemberKind, MemberTree, used, defined, function, method, static, constructor}
use Rattle.wit_foreign.specs.Passed.wit_scopes-Scopes as scope
use Rattle.wit_foreign.specs.Passed.wit_scopes-Scopes.{ExternKind, ListedTree, WorldMemberTree, InterfaceScope, WorldScope, ItemScope}
use Rattle.wit_foreign.specs.Passed.wit_rules-Breaks.{IsKept}
use Rattle.wit_foreign.specs.Passed.wit_rules-Facts.{WorldBreaks, ScopesBreak}
use Rattle.wit_foreign.specs.Passed.wit_lookups-declared-asks-Asked.{Asked}
use Rattle.wit_foreign.specs.Passed.wit_lookups-declared-asks-Asked-TheVariants.{Interface, World}
use Rattle.wit_foreign.specs.Passed.wit_arena-Meaning.{Has}
use Rattle.wit_foreign.proofs.Passed.wit_arena-Lists.{has_none}
use Rattle.wit_foreign.specs.Passed.wit_package_types-Stability.{AreGates}
use Rattle.wit_foreign.specs.Needs.{NeedTree, path_needs, kind_needs, member_needs, extern_needs, world_member_needs, item_needs}
use Rattle.wit_resolved_scopes.proofs.Declaring.{member_gates}
use Rattle.wit_readiness.specs.Readiness.{KeptNeedsHaveGates}
use Rattle.wit_readiness.proofs.Flat.{has_one, in_flat}
use Rattle.wit_readiness.proofs.Parts.{declared_kept, own_gates, listed_gates, included_gates, listed_members_keep, members_keep, world_keeps}

path_attributes : (asked : Asked) (name : Option Slice) (attributes : List AttributeTree) (t : TargetTree) (n : NeedTree) → Has (path_needs asked name attributes t) n → n.attributes ≡ attributes
path_attributes asked name attributes (own x) n has = absurd (has_none n has)
path_attributes asked name attributes (foreign p x) n has = ap (λ (z : NeedTree). z.attributes) (has_one (record { «package» = p; item = x; asked = asked; name = name; attributes = attributes }) n has)

kind_attributes : (attributes : List AttributeTree) (k : MemberKind) (n : NeedTree) → Has (kind_needs attributes k) n → n.attributes ≡ attributes
kind_attributes attributes (used t y) n has = path_attributes Interface (Some y) attributes t n has
kind_attributes attributes (defined d) n has = absurd (has_none n has)
kind_attributes attributes (function f) n has = absurd (has_none n has)
kind_attributes attributes (method r f) n has = absurd (has_none n has)
kind_attributes attributes (static r f) n has = absurd (has_none n has)
kind_attributes attributes (constructor r ps t) n has = absurd (has_none n has)

-- members of which each has such gates
members_ask : (ms : List MemberTree) → ((m : MemberTree) → Has ms m → AreGates m.attributes) → (n : NeedTree) → Has (flat_map member_needs ms) n → AreGates n.attributes
members_ask ms gates n has =
    let r = in_flat member_needs ms n has in
    subst AreGates (sym (kind_attributes r.0.attributes r.0.kind n r.2)) (gates r.0 r.1)

world_asks : (ms : List WorldMemberTree) → IsKept (WorldBreaks ms) → (x : WorldMemberTree) → Has ms x → (n : NeedTree) → Has (world_member_needs x) n → AreGates n.attributes
world_asks ms kept (scope.member m) here n has = subst AreGates (sym (kind_attributes m.attributes m.kind n has)) (own_gates ms kept m here)
world_asks ms kept (scope.included i) here n has = subst AreGates (sym (path_attributes World None i.attributes i.world n has)) (included_gates ms kept i here)
world_asks ms kept (scope.listed l) here n has = by l.kind refl has
  where
    by : (k : ExternKind) → l.kind ≡ k → Has (extern_needs l.attributes k) n → AreGates n.attributes
    by (scope.ExternKind.function f) e h = absurd (has_none n h)
    by (scope.ExternKind.interface ns) e h = members_ask ns (member_gates ns (listed_members_keep ms kept l ns here e)) n h
    by (scope.item t) e h = subst AreGates (sym (path_attributes Interface None l.attributes t n h)) (listed_gates ms kept l here)

scope_asks : (scopes : List ItemScope) → IsKept (ScopesBreak scopes) → (s : ItemScope) → Has scopes s → (n : NeedTree) → Has (item_needs s) n → AreGates n.attributes
scope_asks scopes kept (scope.ItemScope.interface i) here n has = members_ask i.members (member_gates i.members (members_keep scopes kept i here)) n has
scope_asks scopes kept (scope.world w) here n has =
    let r = in_flat world_member_needs w.members n has in
    world_asks w.members (world_keeps scopes kept w here) r.0 r.1 n r.2

pub needs_have_gates : KeptNeedsHaveGates
needs_have_gates files me scopes d n has =
    let r = in_flat item_needs scopes n has in
    scope_asks scopes (declared_kept files me scopes d) r.0 r.1 n r.2
