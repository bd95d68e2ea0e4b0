-- Merged files are files of packets within their limits.
use Rattle.std.proofs.Common.{ℕ, ◌^◌, ◌<◌, Bool, true, false, List, [], ◌∷◌, length, arith}
use Rattle.std.specs.Prelude.{min, All}
use Rattle.std.specs.List.{flat_map}
use Rattle.std.proofs.lemmas.List.{length-take}
use Rattle.std.proofs.lemmas.List.Elements.{All-nil, All-cons, All-append}
use Rattle.sr_pcapng.specs.Writing.{Written, IsWritable, WhatIsWrittenIsRead}
use Rattle.sr_merge.specs.Merging.{Read}
use Rattle.sr_capture_merge.specs.declared.plan.Plan.{Plan}
use Rattle.sr_capture_merge.specs.Entries.{names_of, most_written, first_octets, entry_of, is_shown}
use Rattle.sr_capture_merge.specs.Remarks.{remark_of}
use Rattle.sr_capture_merge.specs.Settling.{Settled}
use Rattle.sr_capture_merge.specs.Files.{entries_by, entries_one, merged_entries, merged_file, MergedFilesAreRead}

first_short : (octets : List ℕ) → length (first_octets octets) < 2 ^ 16
first_short octets = let l = length-take (min (length octets) most_written) octets in omega (arith, l)

entry_writable : (start early : ℕ) (comment : List ℕ) (p : Read) → IsWritable (entry_of start early comment p)
entry_writable start early comment p =
    let octets = first_short p.octets in
    record {
      time = omega arith;
      len = omega (arith, octets);
      octets = octets;
      comment = first_short comment;
    }

one_writable : (shown : Bool) (entry : Written) → IsWritable entry → All IsWritable (entries_by shown entry)
one_writable true entry h = All-cons IsWritable entry [] h (All-nil IsWritable)
one_writable false entry h = All-nil IsWritable

all_writable : (plan : Plan) (start : ℕ) (xs : List Settled) → All IsWritable (flat_map (entries_one plan start) xs)
all_writable plan start [] = All-nil IsWritable
all_writable plan start (x ∷ xs) =
    let comment = remark_of plan.network x.verdict x.packet in
    All-append IsWritable (entries_one plan start x) (flat_map (entries_one plan start) xs)
    (one_writable (is_shown plan.scope comment) (entry_of start plan.early comment x.packet) (entry_writable start plan.early comment x.packet))
    (all_writable plan start xs)

pub merged_files_are_read : WhatIsWrittenIsRead → MergedFilesAreRead
unfolding merged_file merged_entries
merged_files_are_read law plan start xs lane =
    law (names_of plan.network) (flat_map (entries_one plan start) xs) lane (all_writable plan start xs)
