-- What the layouts come to, for a reader.
-- Assumes nothing.
use mathlib.Core.Path.{◌≡◌}
use native.Mathlib.Omega.{arith}
use Rattle.layouts.specs.Paper.Homiq as homiqs
use Rattle.layouts.specs.Paper.Homiq.{Homiq, homiq}
use Rattle.layouts.specs.Paper.Layout.{bytes_of}
use Rattle.layouts.specs.Paper.Nest as nests
use Rattle.layouts.specs.Paper.Nest.{Nest, preamble, nest}
use Rattle.layouts.specs.Paper.Nibe.{Nibe, nibe}
use Rattle.layouts.specs.Paper.Nikobus as nikobuses
use Rattle.layouts.specs.Paper.Nikobus.{Nikobus, nikobus}
use Rattle.layouts.specs.declared.nest.Direction.{Direction}
use Rattle.layouts.specs.declared.nest.Direction.TheVariants.{Command, Response}
use Rattle.layouts.proofs.Laws.HomiqOne.{homiq-one}
use Rattle.layouts.proofs.Laws.Nest.{nest-one}
use Rattle.layouts.proofs.Laws.Nibe.{nibe-one}
use Rattle.layouts.proofs.Laws.Nikobus.{nikobus-one}

-- NO TWO FIELDS WITHIN THE LIMITS HAVE THE SAME BYTES: what is laid out so has one reading, its check values among it
pub one-nikobus : (m n : Nikobus) → nikobuses.Limits m → nikobuses.Limits n → bytes_of nikobus m ≡ bytes_of nikobus n → m ≡ n
one-nikobus = nikobus-one

pub one-nest : (d : Direction) (m n : Nest) → nests.Limits m → nests.Limits n → bytes_of (nest d) m ≡ bytes_of (nest d) n → m ≡ n
one-nest Command = nest-one (preamble Command) (omega arith)
one-nest Response = nest-one (preamble Response) (omega arith)

pub one-nibe : (m n : Nibe) → bytes_of nibe m ≡ bytes_of nibe n → m ≡ n
one-nibe = nibe-one

pub one-homiq : (m n : Homiq) → homiqs.Limits m → homiqs.Limits n → bytes_of homiq m ≡ bytes_of homiq n → m ≡ n
one-homiq = homiq-one
