-- What is left behind a part is no longer than what was there.
use Rattle.std.proofs.Common.{◌≡◌, ℕ, ◌+◌, ◌≤◌, List, length, Ok, ap, arith}
use Rattle.std.proofs.lemmas.List.{length-append}
use Rattle.binary_grammar.specs.Format.{Format, byte, byte_at, u32, u32_at, index, chunk, name}
use Rattle.binary_grammar.proofs.Laws.{Law, byte_law, chunk_law}
use Rattle.binary_grammar.proofs.Numbers.{u32_law}
use Rattle.binary_grammar.proofs.FormatLaws.{laws, name_law}

pub shorter : {X : Type 0} (f : Format X) → Law f → (bytes : List ℕ) (x : X) (rest : List ℕ) → f.read bytes ≡ Ok (x, rest) → length rest ≤ length bytes
shorter f lf bytes x rest e =
    let one = lf.found bytes x rest e in
    omega (arith, ap length one.parts, length-append one.front rest)

pub byte_shorter : (bytes : List ℕ) (x : ℕ) (rest : List ℕ) → byte_at bytes ≡ Ok (x, rest) → length rest ≤ length bytes
byte_shorter bytes x rest e = shorter byte byte_law bytes x rest e

pub number_shorter : (bytes : List ℕ) (x : ℕ) (rest : List ℕ) → u32_at bytes ≡ Ok (x, rest) → length rest ≤ length bytes
number_shorter bytes x rest e = shorter u32 u32_law bytes x rest e

index_law : (limit : ℕ) → Law (index limit)
index_law limit = search laws

pub index_shorter : (limit : ℕ) (bytes : List ℕ) (x : ℕ) (rest : List ℕ) → (index limit).read bytes ≡ Ok (x, rest) → length rest ≤ length bytes
index_shorter limit bytes x rest e = shorter (index limit) (index_law limit) bytes x rest e

pub chunk_shorter : (n : ℕ) (bytes x rest : List ℕ) → (chunk n).read bytes ≡ Ok (x, rest) → length rest ≤ length bytes
chunk_shorter n bytes x rest e = shorter (chunk n) (chunk_law n) bytes x rest e

pub chunk_parts : (n : ℕ) (bytes x rest : List ℕ) → (chunk n).read bytes ≡ Ok (x, rest) → length x + length rest ≡ length bytes
chunk_parts n bytes x rest e =
    let one = (chunk_law n).found bytes x rest e in
    omega (arith, ap length one.parts, ap length one.formed.0, length-append one.front rest)

pub name_shorter : (bytes x rest : List ℕ) → name.read bytes ≡ Ok (x, rest) → length rest ≤ length bytes
name_shorter bytes x rest e = shorter name name_law bytes x rest e
