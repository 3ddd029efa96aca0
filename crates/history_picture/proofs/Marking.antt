-- How many calls matter.
use Rattle.std.proofs.Common.{ℕ, ◌*◌, ◌≤◌, List, [], ◌∷◌, arith, length, take, length-append, length-take}
use Rattle.std.specs.List.{flat_map}
use Rattle.certificate_finder.specs.declared.excluded.Excluded.{Excluded}
use Rattle.certificate_finder.specs.declared.excluded.Excuse.{Excuse}
use Rattle.certificate_finder.specs.declared.excluded.Excuse.TheVariants.{Later, Expired, Replaced}
use Rattle.certificate_finder.specs.declared.faults.CrossedWrites.{CrossedWrites}
use Rattle.history_picture.specs.declared.latest.Latest.TheVariants as latests
use Rattle.history_picture.specs.declared.reason.Reason.{Reason}
use Rattle.history_picture.specs.declared.reason.Reason.TheVariants as reasons
use Rattle.history_picture.specs.Marks.{excuse_marks, excluded_marks, marks_of, read_marks}

few_excuse : (put : ℕ) (why : Excuse) → length (excuse_marks put why) ≤ 2
few_excuse put Later = omega arith
few_excuse put Expired = omega arith
few_excuse put (Replaced write) = omega arith

few_all : (xs : List Excluded) → length (flat_map excluded_marks xs) ≤ 2 * length xs
few_all [] = omega arith
few_all (x ∷ xs) = omega (arith, few_excuse x.put x.why, few_all xs, length-append (excluded_marks x) (flat_map excluded_marks xs))

few_reads : (xs : List CrossedWrites) → length (flat_map read_marks xs) ≤ 6 * length xs
few_reads [] = omega arith
few_reads (x ∷ xs) = omega (arith, few_reads xs, length-append (read_marks x) (flat_map read_marks xs))

-- at most 19 calls matter
pub few_marks : (reason : Reason) → length (marks_of reason) ≤ 19
few_marks (reasons.Interval position) = omega arith
few_marks (reasons.Hit hit puts) = omega (arith, few_all (take 8 puts.items), length-take 8 puts.items)
few_marks (reasons.Crossed one other) = omega arith
few_marks (reasons.Unread unread) = omega (arith, few_reads (take 3 unread.reads.items), length-take 3 unread.reads.items)
few_marks (reasons.OutOfOrder place call earlier) = omega arith
few_marks (reasons.WrongHit place hit latests.Nothing) = omega arith
few_marks (reasons.WrongHit place hit (latests.Other write)) = omega arith
few_marks (reasons.WrongHit place hit (latests.Expired put)) = omega arith
few_marks (reasons.Repeated place position) = omega arith
few_marks (reasons.NotAPlace place position) = omega arith
few_marks reasons.WrongCount = omega arith
