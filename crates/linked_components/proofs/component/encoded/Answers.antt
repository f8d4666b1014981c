use Rattle.std.proofs.Common.{map}
use Rattle.std.specs.Prelude.{string_bytes}
use Rattle.encodable_worlds.specs.Passed.link_table-Linking.{linking_value}
use Rattle.linked_components.specs.Build.{IsComponentCause}
use Rattle.linked_components.specs.Faults.{of_writing}
use Rattle.linked_components.proofs.Causes.{moved_up, writing_cause_is}
use Rattle.linked_components.proofs.component.encoded.Goals as goal

pub encode-requires-clause-backward : goal.encode-requires-clause-backward
encode-requires-clause-backward c =
    (c.law_worlds_are_encodable.ensures c.requires.graph.tables c.args.world (linking_value c.args.linking.now) (map string_bytes c.args.names.now) c.requires.graph.whole c.requires.graph.named c.requires.graph.names_are c.requires.names.are.keys c.requires.names.so_many).backward

pub encode-requires-clause-apart : goal.encode-requires-clause-apart
encode-requires-clause-apart c =
    (c.law_worlds_are_encodable.ensures c.requires.graph.tables c.args.world (linking_value c.args.linking.now) (map string_bytes c.args.names.now) c.requires.graph.whole c.requires.graph.named c.requires.graph.names_are c.requires.names.are.keys c.requires.names.so_many).apart

pub returns-in_err-encoded-clause-cause : goal.returns-in_err-encoded-clause-cause
returns-in_err-encoded-clause-cause c =
    let l = linking_value c.args.linking.now in
    let encodable = c.law_worlds_are_encodable.ensures c.requires.graph.tables c.args.world l (map string_bytes c.args.names.now) c.requires.graph.whole c.requires.graph.named c.requires.graph.names_are c.requires.names.are.keys c.requires.names.so_many in
    let fault = c.in_err-encoded.field-0.0 in
    moved_up c.from_residual.result (of_writing fault) (IsComponentCause l) c.from_residual.ensures.1
    (writing_cause_is l c.requires.table.table c.requires.table.is fault (c.in_err-encoded.ensures.importable (encodable.importable c.requires.table.table c.requires.table.is)))

pub returns-clause-right : goal.returns-clause-right
returns-clause-right c =
    let l = linking_value c.args.linking.now in
    let encodable = c.law_worlds_are_encodable.ensures c.requires.graph.tables c.args.world l (map string_bytes c.args.names.now) c.requires.graph.whole c.requires.graph.named c.requires.graph.names_are c.requires.names.are.keys c.requires.names.so_many in
    (c.requires.table.table, c.requires.table.is, c.in_ok-encoded.ensures.right c.requires.table encodable.listed c.requires.graph.parts c.requires.graph.exported)
