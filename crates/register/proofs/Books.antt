-- Books that have one scheme and the same holdings are the same: whatever shows that they are sound.
use Rattle.std.proofs.Common.{◌≡◌, sym, ap, subst}
use Rattle.std.proofs.Props.{props}
use Rattle.model.specs.Scheme.{Scheme}
use Rattle.model.specs.State.{State}
use Rattle.model.specs.Laws.{Sound}
use Rattle.holdings.specs.Filing.{Rising-prop}
use Rattle.register.specs.declared.book.Book.{Book}

sound_one : (S : Scheme) (st : State) → IsProp (Sound S st)
sound_one S st = Prim.hlevel (props, Rising-prop)

pub same_book : {S H P : Type 0} {x : _} {y : _} {z : _} (b : Book S H P x y z) (h : H) (s : Sound (x.meaning b.scheme) (z.meaning h)) → h ≡ b.holdings
    → ◌≡◌ {A = Book S H P x y z} (record { scheme = b.scheme; holdings = h; phase = b.phase; sound = s }) b
same_book {S} {H} {P} {x} {y} {z} b h s e =
    subst
    (λ (k : H). (t : Sound (x.meaning b.scheme) (z.meaning k)) → ◌≡◌ {A = Book S H P x y z} (record { scheme = b.scheme; holdings = k; phase = b.phase; sound = t }) b)
    (sym e)
    (λ t. ap (λ (u : Sound (x.meaning b.scheme) (z.meaning b.holdings)). record { scheme = b.scheme; holdings = b.holdings; phase = b.phase; sound = u }) (sound_one (x.meaning b.scheme) (z.meaning b.holdings) t b.sound))
    s
