-- The reading and the write that are all zeros, which stand past the end of a list.
use Rattle.snapshot.specs.declared.account.ChainReading.{ChainReading}
use Rattle.snapshot.specs.declared.account.Write.{Write}

abbrev pub zero_reading : ChainReading
zero_reading = record { worker = 0; key = 0; reading = record { value = 0; timestamp = 0; promise = 0 } }

abbrev pub zero_write : Write
zero_write = record { key = 0; value = 0 }
