use Rattle.std.proofs.Common.{◌≡◌, ◌-◌, arith}
use Rattle.scheme_records.proofs.Listing.{records_walked}
use Rattle.scheme_records.proofs.records.Records.iter.Goals as goal

pub returns : goal.returns
returns c =
    let all : c.args.self.places - 0 ≡ c.args.self.places = omega arith in
    rw all (records_walked c.args.self.file.now c.args.self.places)
