-- An `fbs` line, whose numbers are read up to 65536.
use Rattle.std.specs.Prelude.{min}
use Rattle.rules.specs.declared.Settings.{Settings}

unfoldable pub cap_settings : Settings → Settings
cap_settings s = record { p = min 65536 s.p; m = min 65536 s.m; t = min 65536 s.t; norm = s.norm; policy = s.policy; many = s.many }
