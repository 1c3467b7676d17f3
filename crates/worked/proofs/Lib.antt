mod Told
mod Cases
mod OneWay
