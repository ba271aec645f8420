-- The numbers of a fault, and which of a list of tests in order is the first to fail.
use Rattle.std.specs.Prelude.{◌≡◌, ℕ, Bool, true, false, cond, List, [], ◌∷◌, ◌++◌, Some, None, Ok, Err, Option, Result}
use Rattle.scheme_file.specs.declared.fault.FileCause.{FileCause}
use Rattle.scheme_file.specs.declared.fault.FileCause.TheVariants.{Length}
use Rattle.scheme_file.specs.declared.fault.BlockCause.{BlockCause}
use Rattle.scheme_file.specs.declared.fault.BlockCause.TheVariants.{Check, Number, Count}
use Rattle.scheme_file.specs.declared.fault.RecordCause.{RecordCause}
use Rattle.scheme_file.specs.declared.fault.RecordCause.TheVariants.{Tag, Field, Repeated, Beyond, Gifted}
use Rattle.scheme_file.specs.declared.fault.RecordFault.{RecordFault}
use Rattle.scheme_file.specs.declared.fault.BlockLayer.{BlockLayer}
use Rattle.scheme_file.specs.declared.fault.BlockLayer.TheVariants as in_block
use Rattle.scheme_file.specs.declared.fault.BlockFault.{BlockFault}
use Rattle.scheme_file.specs.declared.fault.FileLayer.{FileLayer}
use Rattle.scheme_file.specs.declared.fault.FileLayer.TheVariants as in_file
use Rattle.scheme_file.specs.declared.fault.FileFault.{FileFault}
use Rattle.scheme_file.specs.declared.fault.FaultNumbers.{FaultNumbers}

-- a fault told: its layer (1 file, 2 block, 3 record), cause, block and record; a place that a layer does not have is 0
pub record Fault : Type 0 where
  pub layer : ℕ
  pub cause : ℕ
  pub block : ℕ
  pub place : ℕ

abbrev pub in_whole : ℕ → Fault
in_whole c = record { layer = 1; cause = c; block = 0; place = 0 }

abbrev pub in_block_of : ℕ → ℕ → Fault
in_block_of b c = record { layer = 2; cause = c; block = b; place = 0 }

abbrev pub in_record : ℕ → ℕ → ℕ → Fault
in_record b j c = record { layer = 3; cause = c; block = b; place = j }

-- the number of each cause
abbrev pub file_cause : FileCause → ℕ
file_cause Length = 1

abbrev pub block_cause : BlockCause → ℕ
block_cause Check = 2
block_cause Number = 3
block_cause Count = 4

abbrev pub record_cause : RecordCause → ℕ
record_cause Tag = 5
record_cause Field = 6
record_cause Repeated = 7
record_cause Beyond = 8
record_cause Gifted = 9

-- the numbers of a fault of each layer
abbrev pub record_numbered : RecordFault → Fault
record_numbered f = in_record f.block f.number (record_cause f.cause)

abbrev pub layer_in_block : ℕ → BlockLayer → Fault
layer_in_block b (in_block.Block c) = in_block_of b (block_cause c)
layer_in_block b (in_block.Record f) = record_numbered f

abbrev pub block_numbered : BlockFault → Fault
block_numbered f = layer_in_block f.block f.layer

abbrev pub layer_in_file : FileLayer → Fault
layer_in_file (in_file.File c) = in_whole (file_cause c)
layer_in_file (in_file.Block f) = block_numbered f

abbrev pub numbers : FileFault → Fault
numbers f = layer_in_file f.layer

-- what the code's numbers of a fault mean
abbrev pub numbered : FaultNumbers → Fault
numbered n = record { layer = n.layer; cause = n.cause; block = n.block; place = n.place }

-- a record's fault as its block's, and a block's as its file's
abbrev pub block_fault : RecordFault → BlockFault
block_fault f = record { block = f.block; layer = in_block.Record f }

abbrev pub file_fault : BlockFault → FileFault
file_fault f = record { layer = in_file.Block f }

-- what a check tells: no fault, or one
abbrev pub told : {F : Type 0} → (F → Fault) → Result Unit F → Option Fault
told n (Ok u) = None
told n (Err f) = Some (n f)

-- a test, and the fault where it fails
pub record Test : Type 0 where
  pub passes : Bool
  pub fault : Fault

abbrev pub test : Fault → Bool → Test
test f b = record { passes = b; fault = f }

-- the first test that fails tells the fault
abbrev pub first_fault : List Test → Option Fault
first_fault [] = None
first_fault (t ∷ ts) = cond t.passes (first_fault ts) (Some t.fault)

-- every test of a list passes
abbrev pub AllPass : List Test → Type 0
AllPass [] = Unit {0}
AllPass (t ∷ ts) = (t.passes ≡ true) × AllPass ts

-- some test of a list fails with a fault, and every test in front of it passes
pub record FirstFails (ts : List Test) (f : Fault) : Type 0 where
  pub front : List Test
  pub here : Test
  pub rest : List Test
  pub whole : ts ≡ front ++ here ∷ rest
  pub before : AllPass front
  pub fails : here.passes ≡ false
  pub told : here.fault ≡ f

-- no fault: all pass; a fault: it is that of the first test that fails
abbrev pub Verdict : List Test → Option Fault → Type 0
Verdict ts None = AllPass ts
Verdict ts (Some f) = FirstFails ts f
