use Rattle.std.proofs.Common.{◌≡◌, ◌<◌, length, take, subst, sym, ◌∙◌, arith}
use Rattle.std.proofs.lemmas.List.{take_all, length-map}
use Rattle.std.specs.Prelude.{option_map, string_bytes}
use Rattle.core_links.specs.Names.{names_in}
use Rattle.interface_names.specs.Found.{AreFilled, texts_of}
use Rattle.interface_names.proofs.Finding.{nothing_filled, next_filled}
use Rattle.interface_names.proofs.names.put_others.Goals as goal

pub loop-entry-init : goal.loop-entry-init
loop-entry-init c = nothing_filled (names_in c.args.names.now) (texts_of c.args.texts.now.items)

pub put_import-requires-clause-so_many : goal.put_import-requires-clause-so_many
put_import-requires-clause-so_many c =
    sym (length-map c.loop-entry.texts.items (option_map string_bytes)) ∙ c.loop-entry.invariant.so_many ∙ length-map c.args.texts.now.items (option_map string_bytes) ∙ c.requires.so_many

pub loop-entry-preserved : goal.loop-entry-preserved
loop-entry-preserved c =
    let n = names_in c.args.names.now in
    let es = n.world.imports.entries in
    let k = c.loop-entry.entry in
    let size = c.len-entry-end.ensures.len in
    let lt = c.loop-entry-test.true in
    let within : k < length es = omega (arith, size, lt) in
    next_filled n k (texts_of c.args.texts.now.items) (texts_of c.loop-entry.texts.items) (texts_of c.put_import.new.texts.items) c.in_ok-_alone._alone within c.in_ok-_alone.ensures c.loop-entry.invariant

pub returns : goal.returns
returns c =
    let n = names_in c.args.names.now in
    let es = n.world.imports.entries in
    let size = c.len-entry-end.ensures.len in
    let low = c.loop-entry-test.false in
    let all : take c.loop-entry.entry es ≡ es = take_all c.loop-entry.entry es (omega (arith, size, low)) in
    subst (λ l. AreFilled n l (texts_of c.args.texts.now.items) (texts_of c.loop-entry.texts.items)) all c.loop-entry.invariant
