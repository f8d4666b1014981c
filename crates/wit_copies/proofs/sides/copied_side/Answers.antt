use Rattle.std.proofs.Common.{◌≡◌, List, [], ◌∷◌, ◌++◌, sym, ap, ◌∙◌, subst}
use Rattle.std.proofs.lemmas.List.{append_assoc, append-nil}
use Rattle.wit_types.specs.declared.world.WorldItem.{WorldItem}
use Rattle.wit_types.specs.declared.world_key.WorldKey.{WorldKey}
use Rattle.wit_copies.specs.Copies.{AreCopiedEntries, no_entries, one_entry_more}
use Rattle.wit_copies.proofs.sides.copied_side.Goals as goal

pub loop-key-preserved : goal.loop-key-preserved
loop-key-preserved c = λ more h.
    let k : WorldKey = c.in_ok-clone_key.field-0 in
    let i : WorldItem = c.in_ok-copied_item.field-0 in
    let all : List (WorldKey × WorldItem) = c.args.side.now.entries in
    let found : List (WorldKey × WorldItem) = c.loop-key.found.items in
    let grown : c.push.new.self.items ++ more ≡ found ++ (k, i) ∷ more = ap (λ (xs : List (WorldKey × WorldItem)). xs ++ more) c.in_ok-push.ensures.items ∙ append_assoc found ((k, i) ∷ []) more in
    subst (AreCopiedEntries c.args.copies.now all) (sym grown)
    (c.loop-key.invariant ((k, i) ∷ more) (rw c.in-Some.ensures.steps (one_entry_more c.in-Some.key.now k c.in-Some.item.now i c.next.new.self more c.in_ok-clone_key.ensures c.in_ok-copied_item.ensures h)))

pub returns : goal.returns
returns c = subst (AreCopiedEntries c.args.copies.now c.args.side.now.entries) (append-nil c.loop-key.found.items) (c.loop-key.invariant [] (rw c.in-None.ensures.steps.0 no_entries))
