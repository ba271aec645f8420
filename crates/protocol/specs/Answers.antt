-- The lines that commands are answered with.
use Rattle.std.specs.Prelude.{ℕ, Bool, true, false, List, ◌++◌, codes, decimal}
use Rattle.model.specs.Refusals.{Answer as Told, granted, refused, refusal_number}
use Rattle.scheme_file.specs.Faults.{Fault, numbers}
use Rattle.protocol.specs.declared.answer.Answer.{Answer}
use Rattle.protocol.specs.declared.answer.Answer.TheVariants.{Done, Entered, Linked, Granted, Created, Dropped, Retired, Yes, No, Refused, Faulty, End, Error}

-- a scheme file is refused: the layer, the cause, the block and the record of its fault
abbrev pub fault_line : Fault → List ℕ
fault_line f =
    codes "refused 16 layer " ++ (decimal f.layer ++ (codes " cause " ++ (decimal f.cause ++ (codes " block " ++ (decimal f.block ++ (codes " record " ++ decimal f.place))))))

-- what an answer of the program is printed as
abbrev pub line : Answer → List ℕ
line Done = codes "ok"
line (Entered n) = codes "entered " ++ decimal n
line (Linked i) = codes "granted link " ++ decimal i
line Granted = codes "granted"
line (Created n) = codes "created " ++ decimal n
line Dropped = codes "dropped"
line Retired = codes "retired"
line Yes = codes "yes"
line No = codes "no"
line (Refused e) = codes "refused " ++ decimal (refusal_number e)
line (Faulty fault) = fault_line (numbers fault)
line End = codes "end"
line Error = codes "error"

-- what the model's answers are printed as: of a call that answers nothing, its own word; of one that answers a number, its
-- words and the number; of a question, yes or no
abbrev pub done_line : List ℕ → Told (Unit {0}) → List ℕ
done_line word (granted a) = word
done_line word (refused n) = codes "refused " ++ decimal n

abbrev pub number_line : List ℕ → Told ℕ → List ℕ
number_line words (granted n) = words ++ decimal n
number_line words (refused n) = codes "refused " ++ decimal n

abbrev pub ask_line : Told Bool → List ℕ
ask_line (granted true) = codes "yes"
ask_line (granted false) = codes "no"
ask_line (refused n) = codes "refused " ++ decimal n
