-- The words of tests are short.
use Rattle.std.proofs.Common.{◌≤◌, length, arith}
use Rattle.settings.specs.Names.{test_word}
use Rattle.settings.specs.declared.names.TestName.{TestName}
use Rattle.settings.specs.declared.names.TestName.TheVariants.{SignedRank, Sign, RawSigned, Mcnemar, RankSum, Ansari, Mood, Savage, Median, Raw, Kw, Jt, Umbrella, Friedman, Page, Cochran, Fisher, Linear, Strata, Zelen, StratRankSum, Kendall, Runs, Drill, Shift, Merge}

pub word-short : (name : TestName) → length (test_word name) ≤ 12
word-short SignedRank = omega arith
word-short Sign = omega arith
word-short RawSigned = omega arith
word-short Mcnemar = omega arith
word-short RankSum = omega arith
word-short Ansari = omega arith
word-short Mood = omega arith
word-short Savage = omega arith
word-short Median = omega arith
word-short Raw = omega arith
word-short Kw = omega arith
word-short Jt = omega arith
word-short Umbrella = omega arith
word-short Friedman = omega arith
word-short Page = omega arith
word-short Cochran = omega arith
word-short Fisher = omega arith
word-short Linear = omega arith
word-short Strata = omega arith
word-short Zelen = omega arith
word-short StratRankSum = omega arith
word-short Kendall = omega arith
word-short Runs = omega arith
word-short Drill = omega arith
word-short Shift = omega arith
word-short Merge = omega arith
