use Rattle.std.proofs.Common.{◌≡◌, ◌/◌, rules, length, map, refl, IfOk}
use Rattle.std.specs.Int.{w16, from_le_bytes}
use Rattle.std.specs.Simd.{first_chunks}
use Rattle.std.proofs.iter.runs.Made.{chains}
use Rattle.layout.proofs.Bytes.{pairs_are}
use Rattle.layout.proofs.file.words_of.Goals as goal

pub returns : goal.returns
returns c =
    let h : IfOk c.collect.result (λ v. v.items ≡ map (from_le_bytes w16) (first_chunks 2 (length c.args.bytes.now / 2) c.args.bytes.now)) = search (rules, chains) in
    rw (pairs_are (length c.args.bytes.now / 2) c.args.bytes.now refl) at h
