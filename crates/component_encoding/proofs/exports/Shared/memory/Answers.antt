use Rattle.std.proofs.Common.{◌≡◌, Some, sym, ◌∙◌, ap}
use Rattle.std.specs.Prelude.{map, option_and_then}
use Rattle.wasm_types.specs.Entries.{export_value}
use Rattle.linked_imports.specs.Passed.component_meaning-Spaces.{meaning}
use Rattle.linked_imports.specs.Passed.link_table-View.{name_at}
use Rattle.component_encoding.proofs.Growth.{grows}
use Rattle.component_encoding.proofs.Optioned.{found_at, memory_option, with_memory}
use Rattle.component_encoding.proofs.exports.Shared.memory.Goals as goal

pub returns-clause-option : goal.returns-clause-option
returns-clause-option c = λ l main o same asked m offered shared.
    let es = map export_value c.args.exports.now in
    let at : name_at es c.in-Some-Some.place ≡ Some c.in-Some-Some.name.now = found_at es c.args.place c.in-Some-Some.place c.name_at.result c.in-Some-Some.name c.name_at.ensures c.in-Some-Some.is-1 c.in-Some-Some.is-0 in
    let at_main : name_at l.main.exports c.in-Some-Some.place ≡ Some c.in-Some-Some.name.now = ap (λ xs. name_at xs c.in-Some-Some.place) (sym same) ∙ at in
    let name : o.memory ≡ Some c.in-Some-Some.name.now = asked ∙ ap (option_and_then (name_at es)) c.in-Some-Some.is-1 ∙ at in
    let offer = offered.memory c.in-Some-Some.name.now name in
    let taken = c.in_ok-taken.ensures.takes main l.main.exports m at_main offer.1 shared.memory in (
      memory_option l (meaning main c.take_once.new.builder) c.args.instance c.in-Some-Some.place c.in-Some-Some.name.now o c.in_ok-taken.taken at_main name offer.0 taken.0 taken.1,
      with_memory l.main.exports (meaning main c.args.builder.now) (meaning main c.take_once.new.builder) c.args.instance c.args.self.now c.in_ok-taken.taken (grows main c.args.builder.now c.take_once.new.builder c.in_ok-taken.ensures.begins) shared taken.1,
    )
