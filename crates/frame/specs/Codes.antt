-- What the codes of a frame in memory stand for, by the sizes that it holds.
use Rattle.std.specs.Prelude.{ℕ}
use Rattle.model.specs.Tasks.{Position}
use Rattle.model.specs.Frames.{code_by, values_by}
use Rattle.frame.specs.declared.frame.Frame.{Frame}
use Rattle.frame.specs.Held.{size_in}

-- the position that a code stands for
abbrev pub values_of : Frame → ℕ → Position
values_of f c = values_by (size_in f.sizes) f.mask c

-- the code of a position
abbrev pub code_of : Frame → Position → ℕ
code_of f p = code_by (size_in f.sizes) f.mask p f.n
