-- Ground 13: the space lent for a report, a page or another text.
use Rattle.std.specs.Prelude.{ℕ, Bool, ltb, Ok}
use Rattle.ground.specs.declared.Ground.TheVariants.{ReportSpace}
use Rattle.ground.specs.Verdicts.{Verdict, unless}

-- 13. "The report space is under 512 bytes." Document 02: "13 also covers a page that doesn't fit."
unfoldable pub breaks_space : ℕ → ℕ → Bool
breaks_space needed space = ltb space needed

-- what is asked of the space for so many bytes
abbrev pub space_verdict : ℕ → ℕ → Verdict
space_verdict needed space = unless (breaks_space needed space) ReportSpace 0 (Ok tt)
