use Rattle.std.proofs.Common.{◌≡◌, ◌++◌, map, subst, List}
use Rattle.std.specs.Prelude.{OnOk}
use Rattle.wit_words.specs.Slice.{Slice}
use Rattle.wit_syntax.specs.AstView as view
use Rattle.wit_rules.specs.View as seen
use Rattle.wit_checked_files.proofs.Named.{same_names}
use Rattle.wit_checked_files.proofs.labels.add_kind.Goals as goal

pub returns-in-Record : goal.returns-in-Record
returns-in-Record c = rw c.in-Record.is (subst (λ (ns : List Slice). OnOk c.add_names.result (map seen.label c.add_names.new.found.items ≡ map seen.label c.args.found.now.items ++ ns)) (same_names view.field (λ f. f.name) c.as_slice.result.now c.in-Record.fields.items c.as_slice.ensures.value) c.add_names.ensures)

pub returns-in-Flags : goal.returns-in-Flags
returns-in-Flags c = rw c.in-Flags.is (subst (λ (ns : List Slice). OnOk c.add_names-in-Flags.result (map seen.label c.add_names-in-Flags.new.found.items ≡ map seen.label c.args.found.now.items ++ ns)) (same_names view.flag (λ f. f.name) c.as_slice-in-Flags.result.now c.in-Flags.flags.items c.as_slice-in-Flags.ensures.value) c.add_names-in-Flags.ensures)

pub returns-in-Enum : goal.returns-in-Enum
returns-in-Enum c = rw c.in-Enum.is (subst (λ (ns : List Slice). OnOk c.add_names-in-Enum.result (map seen.label c.add_names-in-Enum.new.found.items ≡ map seen.label c.args.found.now.items ++ ns)) (same_names view.enum_case (λ f. f.name) c.as_slice-in-Enum.result.now c.in-Enum.cases.items c.as_slice-in-Enum.ensures.value) c.add_names-in-Enum.ensures)

pub returns-in-Variant : goal.returns-in-Variant
returns-in-Variant c = rw c.in-Variant.is (subst (λ (ns : List Slice). OnOk c.add_names-in-Variant.result (map seen.label c.add_names-in-Variant.new.found.items ≡ map seen.label c.args.found.now.items ++ ns)) (same_names view.case (λ f. f.name) c.as_slice-in-Variant.result.now c.in-Variant.cases.items c.as_slice-in-Variant.ensures.value) c.add_names-in-Variant.ensures)
