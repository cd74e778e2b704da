mod Wiping
