use Rattle.model.proofs.Lives.{lived}
use Rattle.model.proofs.Reaching.{reached, exact, out_covers, out_sound}
use Rattle.model.proofs.laws.reaches_all_shown.Goals as goal

pub returns : goal.returns
returns c = record {
  reached = reached;
  forecast = λ S w st s n d t o. record {
    exact = exact S w st s n d t o;
    reached = reached S w st s n d t o;
    covers = out_covers S w st s n d t o;
    lived = lived S w;
    sound = out_sound S w st s n d t o;
  };
}
