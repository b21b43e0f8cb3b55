-- Carriers that come to an instance, and that leave it.
-- Source: Erlang/OTP, 'Carrier Migration', section 'Migration'.
use Rattle.std.specs.Prelude.{ℕ}
use Rattle.ea_model.specs.Content.{Content}
use Rattle.ea_model.specs.Instance.{Instance, with_content, without_content, without_own}

-- the instance that also employs a multiblock carrier, whoever owns it
abbrev pub employing : Instance → Content → Instance
employing i x = record i { contents = with_content x i.contents }

-- the instance that no longer employs a carrier; if it owns it, it still does
abbrev pub dismissing : Instance → ℕ → Instance
dismissing i number = record i {
  contents = without_content number i.contents;
  singles = without_content number i.singles;
}

-- the instance that no longer owns a carrier: it is deallocated
abbrev pub disowning : Instance → ℕ → Instance
disowning i number = record i { own = without_own number i.own }
